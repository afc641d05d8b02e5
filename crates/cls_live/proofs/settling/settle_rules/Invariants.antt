use Rattle.std.proofs.Common.{◌≡◌, map, take}
use Rattle.cls_live.specs.Slots.{settled}
use Rattle.cls_live.proofs.settling.settle_rules.Given as goal

abbrev pub invariant-loop-place : goal.invariant-loop-place
invariant-loop-place l = l.found ≡ map (settled l.live l.numbers) (take l.place l.rules)
