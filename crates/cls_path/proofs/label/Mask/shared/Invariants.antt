use Rattle.std.proofs.Common.{◌≡◌, drop}
use Rattle.cls_path.specs.Labels.{first_by, later_by, mask_from, whole_mask}
use Rattle.cls_path.proofs.label.Mask.shared.Given as goal

abbrev pub invariant-loop-path : goal.invariant-loop-path
invariant-loop-path g l =
    mask_from (first_by l.own (g.T.Taxa.class l.taxa)) (later_by l.own (g.T.Taxa.class l.taxa)) whole_mask l.paths
    ≡ mask_from (first_by l.own (g.T.Taxa.class l.taxa)) (later_by l.own (g.T.Taxa.class l.taxa)) l.mask (drop l.path-index l.paths)
