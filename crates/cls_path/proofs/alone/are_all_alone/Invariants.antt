use Rattle.std.proofs.Common.{drop}
use Rattle.std.specs.List.{AllByRecursion}
use Rattle.cls_base.specs.Taxa.{Below}
use Rattle.cls_path.specs.Labels.{AreAlone}
use Rattle.cls_path.proofs.alone.are_all_alone.Given as goal

-- if those that are left are alone, all are
abbrev pub invariant-loop-path : goal.invariant-loop-path
invariant-loop-path g l =
    AllByRecursion (AreAlone (Below (g.T.Taxa.is_below l.taxa))) (drop l.path-index l.paths)
    → AllByRecursion (AreAlone (Below (g.T.Taxa.is_below l.taxa))) l.paths
