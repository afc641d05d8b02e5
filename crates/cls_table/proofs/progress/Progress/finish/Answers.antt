use Rattle.std.proofs.Common.{◌≡◌, ◌∙◌, ap, subst, sym}
use Rattle.cls_core.specs.Machine.{AllFiled}
use Rattle.cls_core.specs.Rows.{Recorded}
use Rattle.cls_table.specs.Seen.{ProgressSeen}
use Rattle.cls_table.proofs.progress.Progress.finish.Goals as goal

pub returns-in-Err-clause-err : goal.returns-in-Err-clause-err
returns-in-Err-clause-err g c =
    let i = c.self.inside in
    let B : Type 0 = g.row.E-Tag.Denot in
    let G : Type 0 = g.row.E-Goal.Denot in
    let put : Recorded G → ProgressSeen B G = λ x. record { tag = i.origin; rows = x.rows; history = x.history } in
    let same : c.in-Err.core ≡ i.core = c.in-Err.ensures.unfinished.0 in (
      ap put same ∙ c.self.view_is,
      λ f. c.in-Err.ensures.unfinished.1
          (subst AllFiled (ap (λ v. v.rows) (sym c.self.view_is)) f),
    )
