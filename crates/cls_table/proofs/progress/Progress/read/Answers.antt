use Rattle.std.proofs.Common.{subst}
use Rattle.std.specs.Prelude.{IfOk, IfSome, IfNone}
use Rattle.cls_core.specs.Machine.{AllFiled}
use Rattle.cls_table.specs.Completing.{IsComplete}
use Rattle.cls_table.specs.Seen.{ProgressSeen}
use Rattle.cls_table.proofs.Lawful.{seen}
use Rattle.cls_table.proofs.Completing.{complete-read}
use Rattle.cls_table.proofs.progress.Progress.read.Goals as goal

pub returns-clause-complete : goal.returns-clause-complete
returns-clause-complete g c =
    let i = c.self.inside in
    let B : Type 0 = g.row.E-Tag.Denot in
    let G : Type 0 = g.row.E-Goal.Denot in
    let eq = g.E.Goal.PartialEq.eq in
    let IsAnswer = g.E.Expand.answers in
    subst (λ (p : ProgressSeen B G). IfOk c.read.result (λ r. IfSome r (λ f. IsComplete eq IsAnswer p.tag f)))
    c.self.view_is (complete-read eq g.met.E.Goal.Key.exact g.met.E.Goal.Eq.laws.refl IsAnswer g.E.Expand.ready
    g.met.E.Expand.one_answer (seen i.origin i.core.rows i.core.history) c.read.result c.self.invariant
    c.read.ensures.finished)

pub returns-clause-unfiled : goal.returns-clause-unfiled
returns-clause-unfiled g c =
    let B : Type 0 = g.row.E-Tag.Denot in
    let G : Type 0 = g.row.E-Goal.Denot in
    subst (λ (p : ProgressSeen B G). IfOk c.read.result (λ r. IfNone r (AllFiled p.rows → ⊥))) c.self.view_is
    c.read.ensures.unfinished
