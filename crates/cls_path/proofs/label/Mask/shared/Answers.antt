use Rattle.std.proofs.Common.{sym, ap, ◌∙◌, arith}
use Rattle.std.proofs.lemmas.List.{drop_all}
use Rattle.cls_path.specs.Labels.{first_by, later_by, mask_from}
use Rattle.cls_path.proofs.label.Mask.shared.Goals as goal

pub returns : goal.returns
returns g c =
    let k = g.T.Taxa.class c.args.taxa.now in
    let firsts = first_by c.args.own k in
    let laters = later_by c.args.own k in
    let n = c.args.paths.now in
    sym (c.loop-path.invariant ∙ ap (mask_from firsts laters c.loop-path.mask) (drop_all c.loop-path.path-index n (omega arith)))
