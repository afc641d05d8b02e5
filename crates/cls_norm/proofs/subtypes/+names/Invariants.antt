use Rattle.std.proofs.Common.{◌+◌, ◌*◌}
use Rattle.cls_base.specs.Types.{nodes}
use Rattle.cls_base.specs.Ty.{type_of}
use Rattle.cls_norm.proofs.subtypes.+names.Given as goal

abbrev pub decreases-has_name : goal.decreases-has_name
decreases-has_name g l = 2 * nodes (type_of l.lower.now)

abbrev pub decreases-one_has_name : goal.decreases-one_has_name
decreases-one_has_name g l = 2 * (nodes (type_of l.first.now) + nodes (type_of l.second.now)) + 1
