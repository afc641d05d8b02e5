use Rattle.std.proofs.Common.{◌≡◌, ◌<◌, ℕ, [], length, map}
use Rattle.std.specs.Prelude.{slice_index_or}
use Rattle.cls_base.specs.Languages.{rules_at}
use Rattle.cls_base.specs.Books.{HaveNodesBelow}
use Rattle.cls_walk.specs.Counts.{heads_of, pairs_of}
use Rattle.cls_walk.specs.FrameColumns.{head_of}
use Rattle.cls_walk.specs.FrameRules.{pairs_at}
use Rattle.cls_walk.proofs.rules.rules_of.Given as goal

abbrev pub invariant-loop-node : goal.invariant-loop-node
invariant-loop-node g l = record {
  many : length l.heads.items ≡ l.node;
  long : length l.pairs.items ≡ l.node;
  heads : (n : ℕ) → n < l.node → map head_of (slice_index_or (map (λ v. v.items) l.heads.items) n []) ≡ heads_of (rules_at (g.B.RuleBook.book l.book) n);
  pairs : (n : ℕ) → n < l.node → pairs_at l.pairs.items n ≡ pairs_of (rules_at (g.B.RuleBook.book l.book) n);
  within : (n : ℕ) → n < l.node → HaveNodesBelow (length (g.B.RuleBook.book l.book)) (rules_at (g.B.RuleBook.book l.book) n);
}
