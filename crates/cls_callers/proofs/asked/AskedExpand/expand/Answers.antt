use Rattle.std.proofs.Common.{◌≡◌, ◌∙◌, IfOk, length, sym, ap, subst, arith}
use Rattle.std.proofs.lemmas.Result.{IfOk-weaker}
use Rattle.cls_core.specs.declared.answer.Answer.TheVariants.{Rules}
use Rattle.cls_core.specs.Arguments.{map_answer}
use Rattle.cls_callers.specs.declared.goal.AskGoal.{AskGoal}
use Rattle.cls_callers.specs.declared.goal.AskGoal.TheVariants.{Of}
use Rattle.cls_callers.specs.declared.tag.AskTag.{AskTag}
use Rattle.cls_callers.specs.Asking.{asked_rules, IsAskAnswer, IsAskReady}
use Rattle.cls_callers.proofs.asked.AskedExpand.expand.Goals as goal

pub root_rules-requires : goal.root_rules-requires
root_rules-requires g c = omega (arith, c.self.invariant.few, ap length c.as_slice.ensures)

pub returns-in_ok-root_rules-in-Root : goal.returns-in_ok-root_rules-in-Root
returns-in_ok-root_rules-in-Root g c =
    let goals = c.as_slice.ensures ∙ ap (λ (t : AskTag g.row.E-Tag.Denot g.row.E-Goal.Denot). t.goals) c.self.view_is in
    subst (λ (x : AskGoal g.row.E-Goal.Denot). IsAskAnswer g.E.Expand.answers c.args.self.now x (Rules c.in_ok-root_rules-in-Root.field-0)) (sym c.in-Root.is)
    (ap Rules (c.in_ok-root_rules-in-Root.ensures ∙ ap (asked_rules 1) goals))

pub expand-requires : goal.expand-requires
expand-requires g c =
    let ready = subst (λ (x : AskGoal g.row.E-Goal.Denot). IsAskReady g.E.Expand.ready c.args.self.now x) c.in-Of.is c.requires in
    subst (λ (t : AskTag g.row.E-Tag.Denot g.row.E-Goal.Denot). g.E.Expand.ready t.by c.in-Of.goal) (sym c.self.view_is) ready

pub returns-in_ok-expand-in-Of : goal.returns-in_ok-expand-in-Of
returns-in_ok-expand-in-Of g c =
    let answers = g.E.Expand.answers in
    let b = c.in_ok-expand-in-Of.field-0 in
    let is = subst (λ (t : AskTag g.row.E-Tag.Denot g.row.E-Goal.Denot). answers t.by c.in-Of.goal b) c.self.view_is c.in_ok-expand-in-Of.ensures in
    subst (λ (x : AskGoal g.row.E-Goal.Denot). IfOk c.asked_answer.result (IsAskAnswer answers c.args.self.now x)) (sym c.in-Of.is)
    (IfOk-weaker c.asked_answer.result (λ a. a ≡ map_answer Of b) (IsAskAnswer answers c.args.self.now (Of c.in-Of.goal))
    (λ a h. (b, is, h)) c.asked_answer.ensures)
