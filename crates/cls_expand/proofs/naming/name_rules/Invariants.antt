use Rattle.std.proofs.Common.{◌≡◌, map, take, slice_index_or}
use Rattle.cls_base.specs.Arguments.{map_rule}
use Rattle.cls_expand.proofs.naming.name_rules.Given as goal

abbrev pub invariant-loop-place : goal.invariant-loop-place
invariant-loop-place g l =
    l.named ≡ map (map_rule (λ i. slice_index_or l.goals i l.other)) (take l.place l.rules)
