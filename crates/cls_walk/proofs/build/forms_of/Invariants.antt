use Rattle.std.proofs.Common.{◌≡◌, ◌+◌, ◌<◌, ℕ, [], length, map}
use Rattle.std.specs.Prelude.{slice_index_or}
use Rattle.cls_walk.specs.Forms.{AreForms}
use Rattle.cls_walk.proofs.build.forms_of.Given as goal

abbrev pub invariant-loop-node : goal.invariant-loop-node
invariant-loop-node g l = record {
  forms : (most : ℕ) → most + 1 ≡ l.size → (n : ℕ) → n < l.node → AreForms (g.B.RuleBook.book l.book) most n (slice_index_or (map (λ v. v.items) l.nodes.items) n []);
  long : length l.nodes.items ≡ l.node;
}
