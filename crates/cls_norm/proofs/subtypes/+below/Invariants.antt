use Rattle.std.proofs.Common.{◌+◌, ◌*◌, [], List, drop, Bor}
use Rattle.cls_base.specs.Types.{nodes}
use Rattle.cls_base.specs.Ty.{type_of}
use Rattle.cls_base.specs.Taxa.{Below}
use Rattle.cls_base.specs.declared.ty.Ty.{Ty}
use Rattle.cls_path.specs.Paths.{sealed, SomeLe, paths_of}
use Rattle.cls_norm.specs.Subtypes.{Adds, paths_of_all, nodes_of_all, nodes_of_step}
use Rattle.cls_norm.proofs.subtypes.+below.Given as goal

abbrev pub decreases-are_below : goal.decreases-are_below
decreases-are_below g l = 4 * (nodes_of_all l.lowers.now + nodes (type_of l.upper.now))

abbrev pub decreases-are_below_over : goal.decreases-are_below_over
decreases-are_below_over g l = 4 * (nodes_of_all l.lowers.now + nodes (type_of l.argument.now)) + 2

abbrev pub decreases-are_below_product : goal.decreases-are_below_product
decreases-are_below_product g l = 4 * (nodes_of_all l.lowers.now + nodes (type_of l.first.now) + nodes (type_of l.second.now)) + 2

abbrev pub decreases-are_below_arrow : goal.decreases-are_below_arrow
decreases-are_below_arrow g l = 4 * (nodes_of_all l.lowers.now + nodes (type_of l.source.now) + nodes (type_of l.target.now)) + 2

abbrev pub decreases-are_below_bare : goal.decreases-are_below_bare
decreases-are_below_bare g l = 4 * (nodes_of_all l.lowers.now + 1) + 3

abbrev pub decreases-parts_are_below : goal.decreases-parts_are_below
decreases-parts_are_below g l = 4 * (nodes_of_all l.lowers.now + nodes_of_step l.step + nodes (type_of l.upper.now)) + 1

abbrev pub decreases-parts_behind : goal.decreases-parts_behind
decreases-parts_behind g l = 4 * (nodes_of_all l.lowers.now + nodes_of_step l.step)

abbrev pub decreases-put_parts : goal.decreases-put_parts
decreases-put_parts g l = 4 * (nodes (type_of l.lower.now) + nodes_of_step l.step) + 3

abbrev pub decreases-has_name_below : goal.decreases-has_name_below
decreases-has_name_below g l = 4 * (nodes_of_all l.lowers.now + nodes (type_of l.argument.now))

abbrev pub decreases-is_name_below : goal.decreases-is_name_below
decreases-is_name_below g l = 4 * (nodes (type_of l.lower.now) + nodes (type_of l.argument.now)) + 3

-- if one of the types has the name over a type that is below, then one of those that are left
abbrev pub invariant-has_name_below-loop-lower : goal.invariant-has_name_below-loop-lower
invariant-has_name_below-loop-lower g l =
    let b = Below (g.T.Taxa.is_below l.taxa) in
    let v = g.T.Taxa.variance_of_name l.taxa in
    let q = sealed l.name.0 (paths_of v (type_of l.argument)) in
    SomeLe b v (paths_of_all v l.lowers) q → SomeLe b v (paths_of_all v (drop l.lower-index l.lowers)) q

-- what the types that are left add, all types do
abbrev pub invariant-parts_behind-loop-lower : goal.invariant-parts_behind-loop-lower
invariant-parts_behind-loop-lower g l =
    let b = Below (g.T.Taxa.is_below l.taxa) in
    let v = g.T.Taxa.variance_of_name l.taxa in
    let left = drop l.lower-index l.lowers in
    (new : List (Bor Ty)) → Adds b v l.step (paths_of_all v left) (nodes_of_all left) l.parts.items new
    → Adds b v l.step (paths_of_all v l.lowers) (nodes_of_all l.lowers) [] new
