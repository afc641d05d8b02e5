use Rattle.std.proofs.Common.{drop}
use Rattle.std.specs.List.{AllByRecursion}
use Rattle.cls_base.specs.Taxa.{Below}
use Rattle.cls_path.specs.Labels.{AreLoneSources}
use Rattle.cls_path.proofs.alone.have_all_own.Given as goal

-- if those that are left have such sources, all have
abbrev pub invariant-loop-path : goal.invariant-loop-path
invariant-loop-path g l =
    AllByRecursion (AreLoneSources (Below (g.T.Taxa.is_below l.taxa))) (drop l.path-index l.paths)
    → AllByRecursion (AreLoneSources (Below (g.T.Taxa.is_below l.taxa))) l.paths
