use Rattle.std.proofs.Common.{◌≡◌, ◌<◌, ℕ, length}
use Rattle.cls_enum.specs.Candidates.{over}
use Rattle.cls_walk.specs.FrameRules.{made_by, mades_at, pairs_at}
use Rattle.cls_walk.proofs.rules.makes_of.Given as goal

abbrev pub invariant-loop-node : goal.invariant-loop-node
invariant-loop-node l = record {
  long : length l.makes.items ≡ l.count;
  made : (n : ℕ) → n < l.count → mades_at l.makes.items n ≡ over l.node (λ k. made_by n k (pairs_at l.pairs k));
}
