use Rattle.std.proofs.Common.{◌≡◌, ◌+◌, max, min, drop}
use Rattle.cls_base.specs.Limits.{max_arity}
use Rattle.cls_path.specs.Paths.{listed}
use Rattle.cls_library.specs.Arrows.{arity_of}
use Rattle.cls_library.proofs.measure.arity.Given as goal

abbrev pub invariant-loop-path : goal.invariant-loop-path
invariant-loop-path l = max l.arity (min (max_arity + 1) (arity_of (listed (drop l.path-index l.path-items)))) ≡ min (max_arity + 1) (arity_of (listed l.fn.nf))
