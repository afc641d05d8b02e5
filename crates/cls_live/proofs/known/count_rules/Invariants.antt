use Rattle.std.proofs.Common.{◌≡◌, take}
use Rattle.cls_live.specs.Slots.{rules_in}
use Rattle.cls_live.proofs.known.count_rules.Given as goal

abbrev pub invariant-loop-one : goal.invariant-loop-one
invariant-loop-one l = l.count ≡ rules_in (take l.one-index l.known)
