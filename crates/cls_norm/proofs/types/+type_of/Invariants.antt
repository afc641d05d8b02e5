use Rattle.std.proofs.Common.{◌≡◌, drop}
use Rattle.cls_base.specs.Ty as closed
use Rattle.cls_path.specs.Sizes.{size_of, list_size}
use Rattle.cls_path.specs.Paths.{type_of_paths, meets, listed}
use Rattle.cls_norm.proofs.types.+type_of.Given as goal

abbrev pub decreases-type_of : goal.decreases-type_of
decreases-type_of l = list_size l.nf.now

abbrev pub decreases-path_type : goal.decreases-path_type
decreases-path_type l = size_of l.path.now

abbrev pub invariant-type_of-loop-path : goal.invariant-type_of-loop-path
invariant-type_of-loop-path l = type_of_paths (listed l.fn.nf) ≡ meets (closed.type_of l.ty) (listed (drop l.path-index l.rest))
