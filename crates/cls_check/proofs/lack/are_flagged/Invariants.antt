use Rattle.std.proofs.Common.{ℕ, ◌<◌, get_or, IsTrue}
use Rattle.cls_check.specs.Layers.{flag}
use Rattle.cls_check.proofs.lack.are_flagged.Given as goal

abbrev pub invariant-loop-number : goal.invariant-loop-number
invariant-loop-number l = (k : ℕ) → k < l.number-index → IsTrue (flag l.flags (get_or l.numbers k 0))
