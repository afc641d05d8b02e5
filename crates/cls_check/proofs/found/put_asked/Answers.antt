use Rattle.std.proofs.Common.{[], ◌∷◌, Contains, sym, subst}
use Rattle.cls_base.proofs.Lists.{Contains-here}
use Rattle.cls_path.specs.Paths.{listed}
use Rattle.cls_check.specs.declared.asked.Asked.{Asked}
use Rattle.cls_check.specs.Asking.{goals_of}
use Rattle.cls_check.specs.Deciding.{IsLeading, SomeAbove}
use Rattle.cls_check.specs.Found.{Adds}
use Rattle.cls_check.specs.Places.{arrows_in}
use Rattle.cls_check.proofs.FoundLaws.{adds-alike}
use Rattle.cls_check.proofs.Keeping.{goal_leads}
use Rattle.cls_check.proofs.found.put_asked.Goals as goal

pub put_goal-requires-clause-goal : goal.put_goal-requires-clause-goal
put_goal-requires-clause-goal c = c.requires.goals (listed c.in-Goal.goal.now)
    (subst (λ (a : Asked). Contains (goals_of a) (listed c.in-Goal.goal.now)) (sym c.in-Goal.is) (Contains-here (listed c.in-Goal.goal.now) []))

pub put_sources-requires-clause-sources : goal.put_sources-requires-clause-sources
put_sources-requires-clause-sources c = λ n m. c.requires.goals n (subst (λ (a : Asked). Contains (goals_of a) n) (sym c.in-Sources.is) m)

pub returns-in_ok-put_goal-in-Goal : goal.returns-in_ok-put_goal-in-Goal
returns-in_ok-put_goal-in-Goal c = λ e.
    let l = c.args.lib.now in
    let arrows = arrows_in l c.args.place in
    let old = c.args.positions.now.items in
    let new = c.put_goal.new.positions.items in
    subst (λ (a : Asked). Adds arrows (IsLeading l (goals_of a)) old new) (sym c.in-Goal.is)
    (adds-alike arrows (SomeAbove l (listed c.in-Goal.goal.now)) (IsLeading l (listed c.in-Goal.goal.now ∷ [])) old new (goal_leads l (listed c.in-Goal.goal.now)) (c.in_ok-put_goal-in-Goal.ensures e))

pub returns-in_ok-put_sources-in-Sources : goal.returns-in_ok-put_sources-in-Sources
returns-in_ok-put_sources-in-Sources c = λ e.
    subst (λ (a : Asked). Adds (arrows_in c.args.lib.now c.args.place) (IsLeading c.args.lib.now (goals_of a)) c.args.positions.now.items c.put_sources.new.positions.items) (sym c.in-Sources.is) (c.in_ok-put_sources-in-Sources.ensures e)
