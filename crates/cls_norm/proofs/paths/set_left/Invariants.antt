use Rattle.std.proofs.Common.{◌≡◌}
use Rattle.cls_path.specs.Paths.{left}
use Rattle.cls_norm.proofs.Changes.{changed}
use Rattle.cls_norm.proofs.paths.set_left.Given as goal

abbrev pub invariant-loop-place : goal.invariant-loop-place
invariant-loop-place l = l.paths.items ≡ changed left l.fn.start l.place l.fn.paths.items
