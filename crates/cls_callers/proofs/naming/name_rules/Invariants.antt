use Rattle.std.proofs.Common.{◌≡◌, map, take}
use Rattle.cls_base.specs.Arguments.{map_rule}
use Rattle.cls_callers.proofs.naming.name_rules.Given as goal

abbrev pub invariant-loop-place : goal.invariant-loop-place
invariant-loop-place g l = l.named ≡ map (map_rule (g.N.Names.named l.names)) (take l.place l.rules)
