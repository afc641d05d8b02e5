use Rattle.std.proofs.Common.{◌∙◌, List, length, sym, ap}
use Rattle.cls_core.specs.Rows.{Row}
use Rattle.cls_callers.specs.declared.goal.AskGoal.{AskGoal}
use Rattle.cls_callers.proofs.KnownRows.{rows-count}
use Rattle.cls_callers.proofs.known.Known.count.Goals as goal

pub returns : goal.returns
returns g c =
    let i = c.self.inside in
    c.self.invariant.counted
    ∙ (sym (rows-count i.goals.keys i.answers.items c.self.invariant.paired)
    ∙ ap (λ (rows : List (Row (AskGoal g.row.G.Denot))). length rows) c.self.view_is)
