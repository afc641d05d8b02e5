use Rattle.std.proofs.Common.{◌≡◌, inl, inr, arith, sym, subst, rules, IfErr}
use Rattle.cls_core.proofs.Closure.{replay-sound, complete-within}
use Rattle.cls_core.proofs.Columns.{lt-split}
use Rattle.cls_table.specs.Lawful.{IsLarge}
use Rattle.cls_table.specs.declared.tag.Tag.{Tag}
use Rattle.cls_table.specs.declared.fault.ExpandFault.TheVariants.{TooLarge}
use Rattle.cls_table.specs.Completing.{IsFiledAt}
use Rattle.cls_table.proofs.Completing.{completed, continues-trans, all-filed}
use Rattle.cls_table.proofs.progress.Progress.complete.Goals as goal

pub returns-in_err-complete_row-clause-large : goal.returns-in_err-complete_row-clause-large
returns-in_err-complete_row-clause-large g c =
    let B : Type 0 = g.row.E-Tag.Denot in
    let G : Type 0 = g.row.E-Goal.Denot in
    let before : IfErr c.from_residual.result (λ e. e ≡ TooLarge → IsLarge g.E.Expand.answers c.loop-row.progress.tag) =
    search rules in
    subst (λ (t : Tag B G). IfErr c.from_residual.result (λ e. e ≡ TooLarge → IsLarge g.E.Expand.answers t))
    c.loop-row.invariant.0.same_tag before

pub loop-row-preserved : goal.loop-row-preserved
loop-row-preserved g c =
    let i = c.loop-row.invariant in
    let e = c.in_ok-complete_row.ensures in (
      continues-trans c.args.self c.loop-row.progress c.complete_row.new.self i.0 e.continues,
      λ k h. elim (lt-split c.loop-row.row k h) [
        | inl l ↦ e.continues.stays_filed k (i.1 k l)
        | inr same ↦ subst (IsFiledAt c.complete_row.new.self.rows)
            (sym same) e.filed
      ],
    )

pub unreachable-requires : goal.unreachable-requires
unreachable-requires g c =
    let past = c.loop-row-test.false in
    c.in-Err.ensures.err.1 (all-filed c.loop-row.progress.rows.states c.loop-row.row
    (omega (arith, c.count.ensures.states, past)) c.loop-row.invariant.1)

pub returns-clause-within : goal.returns-clause-within
returns-clause-within g c =
    let p = c.loop-row.progress in
    let e = c.in-Ok.ensures in
    let eq = g.E.Goal.PartialEq.eq in
    let exact = g.met.E.Goal.Key.exact in
    let reflexive = g.met.E.Goal.Eq.laws.refl in
    let IsAnswer = g.E.Expand.answers p.tag.by in
    let sound = replay-sound eq exact reflexive IsAnswer p.tag.start p.history p.rows e.lawful.legal in
    λ large. complete-within eq exact reflexive IsAnswer p.tag.start (g.met.E.Expand.one_answer p.tag.by) p.rows
    p.tag.goals p.tag.rules sound e.finished.0 e.lawful.goals_within e.lawful.rules_within
    (subst (IsLarge g.E.Expand.answers) (sym c.loop-row.invariant.0.same_tag) large)

pub returns-clause-completion : goal.returns-clause-completion
returns-clause-completion g c =
    let p = c.loop-row.progress in
    let e = c.in-Ok.ensures in
    completed g.E.Goal.PartialEq.eq g.met.E.Goal.Key.exact g.met.E.Goal.Eq.laws.refl g.E.Expand.answers g.E.Expand.ready
    g.met.E.Expand.one_answer c.args.self p c.in-Ok.finished c.loop-row.invariant.0 e.lawful e.finished
