use Rattle.std.proofs.Common.{◌≡◌, ◌∙◌, IfOk, List, sym, ap, subst, arith}
use Rattle.std.proofs.lemmas.Result.{IfOk-weaker}
use Rattle.std.specs.List.{list_any, position_or_len}
use Rattle.cls_core.specs.Arguments.{map_answer}
use Rattle.cls_core.specs.Rows.{Row}
use Rattle.cls_core.proofs.Insertion.{place-found}
use Rattle.cls_callers.specs.declared.goal.AskGoal.{AskGoal}
use Rattle.cls_callers.specs.declared.goal.AskGoal.TheVariants.{Of}
use Rattle.cls_callers.specs.AskGoals.{ask_eq}
use Rattle.cls_callers.specs.Known.{IsKnownAnswer, answered_rows, goal_at}
use Rattle.cls_callers.proofs.KnownRows.{known-missing, known-found}
use Rattle.cls_callers.proofs.known.Known.answer.Goals as goal

pub index-requires : goal.index-requires
index-requires g c =
    let i = c.self.inside in
    omega (arith, c.in-Some.ensures.within, c.self.invariant.paired, i.answers.ok.0)

pub returns-in_default : goal.returns-in_default
returns-in_default g c =
    let i = c.self.inside in
    let eq = g.G.PartialEq.eq in
    let x = c.args.goal.now in
    let missing = ap (λ (y : g.row.G.Denot). list_any (ask_eq eq (Of y)) i.goals.keys) (sym c.in_ok-copy.ensures.same) ∙ sym c.in_default.ensures.found in
    subst (λ (rows : List (Row (AskGoal g.row.G.Denot))). IsKnownAnswer eq rows x _) c.self.view_is
    (known-missing eq i.goals.keys i.answers.items x c.self.invariant.paired missing)

pub returns : goal.returns
returns g c =
    let i = c.self.inside in
    let eq = g.G.PartialEq.eq in
    let x = c.args.goal.now in
    let row = c.in-Some.row in
    let place = place-found (ask_eq eq (Of c.in_ok-copy.field-0)) i.goals.keys row (sym c.in-Some.ensures.index)
    ∙ ap (λ (y : g.row.G.Denot). position_or_len (ask_eq eq (Of y)) i.goals.keys) c.in_ok-copy.ensures.same in
    let found = known-found eq i.goals.keys i.answers.items x c.self.invariant.paired row c.index.result.now place (let w = c.in-Some.ensures.within in w) in
    subst (λ (rows : List (Row (AskGoal g.row.G.Denot))). IfOk c.name_answer.result (IsKnownAnswer eq rows x)) c.self.view_is
    (IfOk-weaker c.name_answer.result (λ a. a ≡ map_answer (goal_at c.as_slice.result.now x) c.index.result.now) (IsKnownAnswer eq (answered_rows i.goals.keys i.answers.items) x)
    (λ a h. h ∙ (ap (λ (l : List (AskGoal g.row.G.Denot)). map_answer (goal_at l x) c.index.result.now) c.as_slice.ensures.keys ∙ (ap (map_answer (goal_at i.goals.keys x)) c.index.ensures ∙ found))) c.name_answer.ensures)
