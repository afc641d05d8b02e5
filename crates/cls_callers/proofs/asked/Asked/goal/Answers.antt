use Rattle.std.proofs.Common.{◌≡◌, ◌<◌, ◌-◌, ◌∙◌, List, Some, length, slice_get, refl, ap, subst, arith}
use Rattle.std.proofs.lemmas.Option.{slice_get_read}
use Rattle.cls_callers.specs.declared.tag.AskTag.{AskTag}
use Rattle.cls_callers.proofs.asked.Asked.goal.Goals as goal

pub bounds-as_slice-k : goal.bounds-as_slice-k
bounds-as_slice-k g c =
    let same = c.as_slice.ensures ∙ ap (λ (t : AskTag g.row.E-Tag.Denot g.row.E-Goal.Denot). t.goals) c.self.view_is in
    omega (arith, c.requires.0, c.requires.1, ap length same)

pub returns : goal.returns
returns g c =
    let items = c.as_slice.result.now in
    let same = c.as_slice.ensures ∙ ap (λ (t : AskTag g.row.E-Tag.Denot g.row.E-Goal.Denot). t.goals) c.self.view_is in
    let within : c.args.k - 1 < length items = omega (arith, c.requires.0, c.requires.1, ap length same) in
    subst (λ (l : List g.row.E-Goal.Denot). slice_get l (c.args.k - 1) ≡ Some c.index-as_slice-k.result) same
    (slice_get_read items (length items) (c.args.k - 1) c.index-as_slice-k.result refl within c.index-as_slice-k.is)
