use Rattle.std.proofs.Common.{subst}
use Rattle.std.specs.Prelude.{IfOk, IfNone}
use Rattle.cls_core.specs.Machine.{AllFiled}
use Rattle.cls_table.specs.Seen.{TableSeen}
use Rattle.cls_table.proofs.table.Table.read.Goals as goal

pub returns-clause-unfiled : goal.returns-clause-unfiled
returns-clause-unfiled g c =
    let B : Type 0 = g.row.E-Tag.Denot in
    let G : Type 0 = g.row.E-Goal.Denot in
    subst (λ (t : TableSeen B G). IfOk c.read.result (λ r. IfNone r (AllFiled t.rows → ⊥))) c.self.view_is
    c.read.ensures.unfiled
