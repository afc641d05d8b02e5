use Rattle.std.proofs.Common.{◌≡◌, take}
use Rattle.cls_live.specs.Slots.{read_rules}
use Rattle.cls_live.proofs.reading.read.Given as goal

abbrev pub invariant-loop-place : goal.invariant-loop-place
invariant-loop-place l = l.found ≡ read_rules l.live l.goals (take l.place l.rules)
