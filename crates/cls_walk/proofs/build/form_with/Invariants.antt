use Rattle.std.proofs.Common.{◌≡◌, ◌++◌}
use Rattle.cls_walk.specs.Repeats.{copies}
use Rattle.cls_walk.proofs.build.form_with.Given as goal

abbrev pub invariant-loop-place : goal.invariant-loop-place
invariant-loop-place l = l.all.items ≡ l.nodes ++ copies l.node l._place
