use Rattle.std.proofs.Common.{◌≡◌, drop}
use Rattle.cls_path.specs.Paths.{listed}
use Rattle.cls_path.specs.Labels.{join_all, all_names_of}
use Rattle.cls_path.proofs.label.all_names.Given as goal

abbrev pub invariant-loop-path : goal.invariant-loop-path
invariant-loop-path g l =
    all_names_of (g.T.Taxa.class l.taxa) (listed l.path-items) ≡ join_all (g.T.Taxa.class l.taxa) l.span (listed (drop l.path-index l.path-items))
