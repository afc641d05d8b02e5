use Rattle.std.proofs.Common.{drop}
use Rattle.cls_base.specs.Taxa.{Below}
use Rattle.cls_path.specs.Paths.{atom, SomeLe}
use Rattle.cls_norm.specs.Subtypes.{paths_of_all}
use Rattle.cls_norm.proofs.subtypes.some_has_name.Given as goal

-- if one of the types has the name, then one of those that are left
abbrev pub invariant-loop-lower : goal.invariant-loop-lower
invariant-loop-lower g l =
    let b = Below (g.T.Taxa.is_below l.taxa) in
    let v = g.T.Taxa.variance_of_name l.taxa in
    SomeLe b v (paths_of_all v l.lowers) (atom l.name.0) → SomeLe b v (paths_of_all v (drop l.lower-index l.lowers)) (atom l.name.0)
