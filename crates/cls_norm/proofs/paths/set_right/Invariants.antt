use Rattle.std.proofs.Common.{◌≡◌}
use Rattle.cls_path.specs.Paths.{right}
use Rattle.cls_norm.proofs.Changes.{changed}
use Rattle.cls_norm.proofs.paths.set_right.Given as goal

abbrev pub invariant-loop-place : goal.invariant-loop-place
invariant-loop-place l = l.paths.items ≡ changed right l.fn.start l.place l.fn.paths.items
