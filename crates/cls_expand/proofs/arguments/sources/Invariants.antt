use Rattle.std.proofs.Common.{◌≡◌, map, take}
use Rattle.cls_path.specs.Paths.{listed}
use Rattle.cls_expand.proofs.arguments.sources.Given as goal

abbrev pub invariant-loop-place : goal.invariant-loop-place
invariant-loop-place l = map listed l.args.items ≡ take l.place l.arrow.sources
