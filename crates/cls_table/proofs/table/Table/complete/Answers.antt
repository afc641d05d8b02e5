use Rattle.std.proofs.Common.{◌≡◌, subst, OnOk, IfErr}
use Rattle.cls_table.specs.Lawful.{IsLarge}
use Rattle.cls_table.specs.Seen.{TableSeen}
use Rattle.cls_table.specs.declared.fault.ExpandFault.TheVariants.{TooLarge}
use Rattle.cls_table.proofs.table.Table.complete.Goals as goal

pub returns-clause-within : goal.returns-clause-within
returns-clause-within g c =
    let B : Type 0 = g.row.E-Tag.Denot in
    let G : Type 0 = g.row.E-Goal.Denot in
    subst (λ (t : TableSeen B G). OnOk c.complete.result (IsLarge g.E.Expand.answers t.tag → ⊥)) c.self.view_is
    c.complete.ensures.within

pub returns-clause-large : goal.returns-clause-large
returns-clause-large g c =
    let B : Type 0 = g.row.E-Tag.Denot in
    let G : Type 0 = g.row.E-Goal.Denot in
    subst (λ (t : TableSeen B G). IfErr c.complete.result (λ e. e ≡ TooLarge → IsLarge g.E.Expand.answers t.tag))
    c.self.view_is c.complete.ensures.large
