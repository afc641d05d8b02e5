use Rattle.std.proofs.Common.{take}
use Rattle.cls_finite.specs.Descents.{AreDone}
use Rattle.cls_finite.proofs.steps.first_undone.Given as goal

abbrev pub invariant-loop-place : goal.invariant-loop-place
invariant-loop-place l = AreDone l.marks (take l.place l.nodes)
