use Rattle.std.proofs.Common.{◌≡◌}
use Rattle.std.specs.Prelude.{replicate}
use Rattle.cls_finite.specs.declared.descent.Mark.TheVariants.{Unseen}
use Rattle.cls_finite.proofs.descent.Descent.begin.Given as goal

abbrev pub invariant-loop : goal.invariant-loop
invariant-loop l = l.marks.items ≡ replicate l.counter Unseen
