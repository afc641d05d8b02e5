use Rattle.std.proofs.Common.{◌≡◌, drop}
use Rattle.cls_path.specs.Paths.{atom, none, more, listed}
use Rattle.cls_path.specs.Tests.{list_below}
use Rattle.cls_path.proofs.path.Nf.are_above_name.Given as goal

abbrev pub invariant-loop-path : goal.invariant-loop-path
invariant-loop-path g l =
    list_below (g.T.Taxa.is_below l.taxa) (g.T.Taxa.variance_of_name l.taxa) (more (atom l.name.0) none) (listed l.path-items)
    ≡ list_below (g.T.Taxa.is_below l.taxa) (g.T.Taxa.variance_of_name l.taxa) (more (atom l.name.0) none) (listed (drop l.path-index l.path-items))
