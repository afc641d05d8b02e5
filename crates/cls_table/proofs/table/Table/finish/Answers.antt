use Rattle.std.proofs.Common.{◌≡◌, ◌∙◌, ap, subst, sym, true}
use Rattle.cls_core.specs.Machine.{AllFiled}
use Rattle.cls_table.specs.Lawful.{claims_in, IsLarge}
use Rattle.cls_table.specs.Completing.{IsComplete}
use Rattle.cls_table.specs.Seen.{ProgressSeen, TableSeen, table_of}
use Rattle.cls_table.proofs.Completing.{complete-finish}
use Rattle.cls_table.proofs.table.Table.finish.Goals as goal

pub invariant_of-result : goal.invariant_of-result
invariant_of-result g c =
    let i = c.self.inside in
    let B : Type 0 = g.row.E-Tag.Denot in
    let G : Type 0 = g.row.E-Goal.Denot in
    let e : c.in-Err.progress ≡ i.progress = c.in-Err.ensures.err.0 in
    subst (λ (p : ProgressSeen B G). (claims_in p.history ≡ i.claims.total) × (i.made ≡ i.claims.total)
    × (i.large ≡ true → IsLarge g.E.Expand.answers p.tag)) (sym e) c.self.invariant

pub returns-in-Err-clause-err : goal.returns-in-Err-clause-err
returns-in-Err-clause-err g c =
    let i = c.self.inside in
    let B : Type 0 = g.row.E-Tag.Denot in
    let G : Type 0 = g.row.E-Goal.Denot in
    let e : c.in-Err.progress ≡ i.progress = c.in-Err.ensures.err.0 in
    let seen : ProgressSeen B G → TableSeen B G = λ p. table_of p i.claims.total i.large i.stopped in
    (ap seen e ∙ c.self.view_is, λ f. c.in-Err.ensures.err.1 (subst AllFiled (ap (λ t. t.rows) (sym c.self.view_is)) f))

pub returns-in-Ok-clause-complete : goal.returns-in-Ok-clause-complete
returns-in-Ok-clause-complete g c =
    let i = c.self.inside in
    let e = c.in-Ok.ensures in
    let B : Type 0 = g.row.E-Tag.Denot in
    let G : Type 0 = g.row.E-Goal.Denot in
    subst (λ (t : TableSeen B G). IsComplete g.E.Goal.PartialEq.eq g.E.Expand.answers t.tag c.in-Ok.finished)
    c.self.view_is (complete-finish g.E.Goal.PartialEq.eq g.met.E.Goal.Key.exact g.met.E.Goal.Eq.laws.refl
    g.E.Expand.answers g.E.Expand.ready g.met.E.Expand.one_answer i.progress c.in-Ok.finished e.lawful e.finished)
