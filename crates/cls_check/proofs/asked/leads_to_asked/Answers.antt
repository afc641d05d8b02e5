use Rattle.std.proofs.Common.{[], ◌↔◌, Contains, IsTrue, sym, subst}
use Rattle.cls_base.proofs.Lists.{Contains-here}
use Rattle.cls_path.specs.Paths.{listed}
use Rattle.cls_check.specs.declared.asked.Asked.{Asked}
use Rattle.cls_check.specs.Asking.{goals_of}
use Rattle.cls_check.specs.Deciding.{IsLeading}
use Rattle.cls_check.proofs.Keeping.{goal_leads}
use Rattle.cls_check.proofs.asked.leads_to_asked.Goals as goal

pub leads_to-requires-clause-goal : goal.leads_to-requires-clause-goal
leads_to-requires-clause-goal c = c.requires.goals (listed c.in-Goal.goal.now)
    (subst (λ (a : Asked). Contains (goals_of a) (listed c.in-Goal.goal.now)) (sym c.in-Goal.is) (Contains-here (listed c.in-Goal.goal.now) []))

pub returns-in-Goal : goal.returns-in-Goal
returns-in-Goal c =
    let alone = goal_leads c.args.lib.now (listed c.in-Goal.goal.now) c.args.target.now in
    subst (λ (a : Asked). IsTrue c.leads_to.result ↔ IsLeading c.args.lib.now (goals_of a) c.args.target.now) (sym c.in-Goal.is)
    ((λ e. alone.0 (c.leads_to.ensures.0 e)), (λ h. c.leads_to.ensures.1 (alone.1 h)))
