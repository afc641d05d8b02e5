use Rattle.std.proofs.Common.{◌≡◌}
use Rattle.cls_path.specs.Paths.{inside}
use Rattle.cls_norm.proofs.Changes.{changed}
use Rattle.cls_norm.proofs.paths.set_name.Given as goal

abbrev pub invariant-loop-place : goal.invariant-loop-place
invariant-loop-place l = l.paths.items ≡ changed (inside l.fn.name.0) l.fn.start l.place l.fn.paths.items
