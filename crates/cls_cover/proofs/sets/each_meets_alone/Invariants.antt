use Rattle.std.proofs.Common.{ℕ, ◌↔◌}
use Rattle.cls_cover.specs.Sets.{IsIn, MeetsAlone}
use Rattle.cls_cover.proofs.sets.each_meets_alone.Given as goal

abbrev pub invariant-loop-other : goal.invariant-loop-other
invariant-loop-other l = (x : ℕ) → IsIn l.found x ↔ (IsIn l.set x × MeetsAlone l.sets l.other-index l.set x)
