use Rattle.std.proofs.Common.{◌≡◌, drop}
use Rattle.cls_path.specs.Paths.{atom, listed}
use Rattle.cls_path.specs.Tests.{some_below}
use Rattle.cls_path.proofs.path.Nf.is_some_below_name.Given as goal

abbrev pub invariant-loop-path : goal.invariant-loop-path
invariant-loop-path g l =
    some_below (g.T.Taxa.is_below l.taxa) (g.T.Taxa.variance_of_name l.taxa) (listed l.path-items) (atom l.name.0)
    ≡ some_below (g.T.Taxa.is_below l.taxa) (g.T.Taxa.variance_of_name l.taxa) (listed (drop l.path-index l.path-items)) (atom l.name.0)
