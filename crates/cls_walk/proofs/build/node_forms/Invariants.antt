use Rattle.std.proofs.Common.{◌≡◌, take}
use Rattle.cls_walk.specs.Repeats.{forms_by}
use Rattle.cls_walk.proofs.build.node_forms.Given as goal

abbrev pub invariant-loop-place : goal.invariant-loop-place
invariant-loop-place l = l.forms.items ≡ forms_by l.repeat l.size (take l.place l.rules)
