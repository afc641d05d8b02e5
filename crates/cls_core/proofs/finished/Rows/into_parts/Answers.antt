use Rattle.std.proofs.Common.{sym, ap, ◌∙◌, map, List}
use Rattle.cls_core.specs.Closure.{goals_of}
use Rattle.cls_core.specs.Rows.{Row}
use Rattle.cls_core.proofs.FiledRows.{filed-goals, filed-answers}
use Rattle.cls_core.proofs.finished.Rows.into_parts.Goals as goal

pub returns-clause-goals : goal.returns-clause-goals
returns-clause-goals g c =
    let i = c.self.inside in
    let v = c.self.invariant in
    sym (filed-goals i.goals.keys i.states.items v.paired v.filed) ∙ ap (λ (rows : List (Row g.row.G.Denot)). goals_of rows) c.self.view_is

pub returns-clause-answers : goal.returns-clause-answers
returns-clause-answers g c =
    let i = c.self.inside in
    let v = c.self.invariant in
    c.in_ok-answers.ensures
    ∙ (filed-answers i.goals.keys i.states.items v.paired v.filed
    ∙ ap (λ (rows : List (Row g.row.G.Denot)). map (λ (r : Row g.row.G.Denot). r.answer) rows) c.self.view_is)
