use Rattle.std.proofs.Common.{◌≡◌, ◌∙◌, Option, refl, subst}
use Rattle.std.specs.Option.{ForSome}
use Rattle.std.proofs.lemmas.Result.{err_from_is_err_and}
use Rattle.cls_table.specs.declared.fault.ExpandFault.TheVariants.{TooLarge}
use Rattle.cls_table.specs.declared.tag.Tag.{Tag}
use Rattle.cls_table.specs.Lawful.{IsLarge}
use Rattle.cls_callers.specs.declared.goal.AskGoal.{AskGoal}
use Rattle.cls_callers.specs.declared.tag.AskTag.{AskTag}
use Rattle.cls_callers.specs.Asking.{IsAskAnswer, IsAskedClosure}
use Rattle.cls_callers.proofs.Within.{root-closure}
use Rattle.cls_callers.proofs.callers.Callers.ask.Goals as goal

pub finish-requires-clause-meaning : goal.finish-requires-clause-meaning
finish-requires-clause-meaning g c = let h = c.requires.caller in (h.tag, h.known, h.means)

pub new-requires : goal.new-requires
new-requires g c =
    root-closure g.E.Goal.PartialEq.eq g.E.Expand.answers c.args.by.now c.args.seat.now c.finish.new.seat c.in_ok-finished.finished
    c.in_ok-finished.finished.rows c.requires.caller c.finish.ensures.after.tag c.in_ok-finished.ensures.complete refl

pub returns-clause-rows : goal.returns-clause-rows
returns-clause-rows g c =
    subst (λ (t : AskTag g.row.E-Tag.Denot g.row.E-Goal.Denot). IsAskedClosure g.E.Goal.PartialEq.eq g.E.Expand.answers t c.args.k c.in_ok-get.field-0) c.in_ok-closures.ensures c.in_ok-get.ensures

pub returns-clause-within : goal.returns-clause-within
returns-clause-within g c = λ tag is. (c.in_ok-finished.ensures.complete tag (c.finish.ensures.after.tag ∙ is)).not_large

pub returns-in_err-finished-clause-large : goal.returns-in_err-finished-clause-large
returns-in_err-finished-clause-large g c =
    let p = err_from_is_err_and c.from_residual.result c.from_residual.ensures.1 in
    rw (p.1, p.2)
    (λ (e : _ ≡ TooLarge). subst (λ (o : Option (Tag (AskTag g.row.E-Tag.Denot g.row.E-Goal.Denot) (AskGoal g.row.E-Goal.Denot))). ForSome o (IsLarge (IsAskAnswer g.E.Expand.answers)))
    c.finish.ensures.after.tag (c.in_err-finished.ensures.large e))
