use Rattle.std.proofs.Common.{subst}
use Rattle.cls_table.specs.Lawful.{IsLawfulTable}
use Rattle.cls_table.specs.Seen.{TableSeen, table_of}
use Rattle.cls_table.proofs.Lawful.{lawful-table}
use Rattle.cls_table.proofs.table.Table.facts.Goals as goal

pub returns : goal.returns
returns g c =
    let i = c.self.inside in
    let k = c.self.invariant in
    let B : Type 0 = g.row.E-Tag.Denot in
    let G : Type 0 = g.row.E-Goal.Denot in
    let eq = g.E.Goal.PartialEq.eq in
    let IsAnswer = g.E.Expand.answers in
    let whole = lawful-table eq IsAnswer g.E.Expand.ready g.met.E.Goal.Key.exact g.met.E.Goal.Eq.laws.refl
    (table_of i.progress i.claims.total i.large i.stopped) c.facts.ensures k.0 k.2 in
    subst (λ (t : TableSeen B G). IsLawfulTable eq IsAnswer t) c.self.view_is whole
