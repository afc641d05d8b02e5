use Rattle.std.proofs.Common.{◌+◌, ◌*◌}
use Rattle.cls_base.specs.Types.{nodes}
use Rattle.cls_base.specs.Ty.{type_of}
use Rattle.cls_norm.proofs.paths.+paths.Given as goal

abbrev pub decreases-put_paths_of : goal.decreases-put_paths_of
decreases-put_paths_of g l = 3 * nodes (type_of l.ty.now)

abbrev pub decreases-form_of : goal.decreases-form_of
decreases-form_of g l = 3 * nodes (type_of l.ty.now) + 1

abbrev pub decreases-put_under_name : goal.decreases-put_under_name
decreases-put_under_name g l = 3 * nodes (type_of l.argument.now) + 2

abbrev pub decreases-put_product : goal.decreases-put_product
decreases-put_product g l = 3 * (nodes (type_of l.first.now) + nodes (type_of l.second.now)) + 2

abbrev pub decreases-put_arrow : goal.decreases-put_arrow
decreases-put_arrow g l = 3 * (nodes (type_of l.source.now) + nodes (type_of l.target.now)) + 2
