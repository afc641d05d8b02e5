use Rattle.std.proofs.Common.{take}
use Rattle.cls_filtered.specs.Makings.{IsMade, applications}
use Rattle.cls_filtered.proofs.making.Making.apply.Given as goal

abbrev pub invariant-loop-pair : goal.invariant-loop-pair
invariant-loop-pair l = IsMade (applications l.kept l.parts.0 l.parts.1 (take l.pair-index l.pairs)) l.initial.self l.self
