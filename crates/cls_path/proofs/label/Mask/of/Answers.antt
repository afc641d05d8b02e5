use Rattle.std.proofs.Common.{sym, subst}
use Rattle.cls_base.specs.Taxa.{Below}
use Rattle.cls_path.specs.declared.label.Mask.{Mask}
use Rattle.cls_path.specs.Labels.{first_by, later_by, AreAlone, AreLoneSources, IsMasked, whole_mask}
use Rattle.cls_path.proofs.GroupLaws.{by_all}
use Rattle.cls_path.proofs.LabelLaws.{mask_fits}
use Rattle.cls_path.proofs.label.Mask.of.Goals as goal

pub returns : goal.returns
returns g c =
    let b = Below (g.T.Taxa.is_below c.args.taxa.now) in
    let k = g.T.Taxa.class c.args.taxa.now in
    let firsts = first_by c.have_all_own-own.result k in
    let laters = later_by c.have_all_own-own.result k in
    let n = c.args.paths.now in
    λ p h. (
      subst (λ (m : Mask). IsMasked firsts laters m p) (sym c.shared-mask.ensures) (mask_fits firsts laters whole_mask n p h),
      λ e. by_all (AreAlone b) n (c.are_all_alone-alone.ensures e) p h,
      λ e. by_all (AreLoneSources b) n (c.have_all_own-own.ensures e) p h,
    )
