use Rattle.std.proofs.Common.{◌∙◌, IfOk, sym, subst}
use Rattle.std.proofs.lemmas.Result.{IfOk-weaker}
use Rattle.cls_base.proofs.Lists.{Contains-at}
use Rattle.cls_core.proofs.Columns.{some-inside}
use Rattle.cls_core.specs.Canonical.{IsCanonical}
use Rattle.cls_callers.specs.declared.tag.AskTag.{AskTag}
use Rattle.cls_callers.specs.Asking.{IsAskedClosure}
use Rattle.cls_callers.specs.Known.{IsKnownAnswer}
use Rattle.cls_callers.proofs.Within.{known-few, meant-canonical}
use Rattle.cls_callers.proofs.closures.AskedClosures.get.Goals as goal

pub pick-requires : goal.pick-requires
pick-requires g c =
    let i = c.self.inside in
    known-few g.E.Goal.PartialEq.eq g.met.E.Goal.Key.exact g.met.E.Goal.Eq.laws.refl g.E.Expand.answers i.by.now i.known c.self.invariant
    c.goal.result.now (Contains-at i.by.now.goals _ c.goal.result.now c.goal.ensures)

pub returns : goal.returns
returns g c =
    let eq = g.E.Goal.PartialEq.eq in
    let i = c.self.inside in
    let start = c.goal.result.now in
    let answers = g.E.Expand.answers in
    subst (λ (t : AskTag g.row.E-Tag.Denot g.row.E-Goal.Denot). IfOk c.pick.result (IsAskedClosure eq answers t c.args.k)) c.self.view_is
    (IfOk-weaker c.pick.result (IsCanonical eq (IsKnownAnswer eq i.known) start) (IsAskedClosure eq answers i.by.now c.args.k)
    (λ rows h x at. subst (λ y. IsCanonical eq (answers i.by.now.by) y rows) (some-inside start x (sym c.goal.ensures ∙ at)) (meant-canonical eq g.met.E.Goal.Key.exact g.met.E.Goal.Eq.laws.refl answers i.by.now i.known c.self.invariant start (Contains-at i.by.now.goals _ start c.goal.ensures) rows h))
    c.pick.ensures)
