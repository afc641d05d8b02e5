use Rattle.std.proofs.Common.{drop}
use Rattle.cls_base.specs.Taxa.{Below}
use Rattle.cls_path.specs.Paths.{PathsLe}
use Rattle.cls_norm.specs.Subtypes.{paths_of_all}
use Rattle.cls_norm.proofs.wide.are_below_each.Given as goal

-- what is below the upper types that are left is below all of them
abbrev pub invariant-loop-upper : goal.invariant-loop-upper
invariant-loop-upper g l =
    let b = Below (g.T.Taxa.is_below l.taxa) in
    let v = g.T.Taxa.variance_of_name l.taxa in
    let n = paths_of_all v l.lowers in
    PathsLe b v n (paths_of_all v (drop l.upper-index l.uppers)) → PathsLe b v n (paths_of_all v l.uppers)
