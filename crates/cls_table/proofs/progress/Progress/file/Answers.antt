use Rattle.std.proofs.Common.{arith, sym, subst, ◌≡◌, ◌≤◌, ◌+◌, Some, slice_get, IfOk}
use Rattle.std.specs.Option.{ForSome}
use Rattle.cls_core.specs.declared.filing.Filing.TheVariants.{OverLimits}
use Rattle.cls_core.specs.declared.state.RowState.TheVariants.{Held}
use Rattle.cls_core.specs.Arguments.{rule_count}
use Rattle.cls_core.specs.Machine.{rules_in}
use Rattle.cls_table.specs.Lawful.{IsLarge}
use Rattle.cls_table.specs.Holdings.{HasRoom}
use Rattle.cls_table.proofs.Lawful.{seen, large-answer, large-filing, lawful-filing}
use Rattle.cls_table.proofs.progress.Progress.file.Goals as goal

pub returns-then-rule_count-rules-clause-large : goal.returns-then-rule_count-rules-clause-large
returns-then-rule_count-rules-clause-large g c _ =
    let i = c.self.inside in
    let eq = g.E.Goal.PartialEq.eq in
    let IsAnswer = g.E.Expand.answers in
    let held = subst (λ v. slice_get v.rows.states c.args.row ≡ Some (Held c.args.worker)) (sym c.self.view_is)
    c.requires.held in
    let answer = subst (λ v. ForSome (slice_get v.rows.goals c.args.row) (λ x. IsAnswer v.tag.by x c.args.answer))
    (sym c.self.view_is) c.requires.answer in
    let none : HasRoom eq i.origin i.core.rows c.args.answer → ⊥ = λ h. omega (
      arith,
      h.1,
      c.if-rule_count-rules.true,
      c.rule_count.ensures,
      c.rules-2.ensures,
      c.from.ensures,
      c.rules.ensures,
    ) in
    subst (λ v. IsLarge IsAnswer v.tag) c.self.view_is
    (large-answer eq IsAnswer g.E.Expand.ready g.met.E.Goal.Key.exact g.met.E.Goal.Eq.laws.refl
    (seen i.origin i.core.rows i.core.history) c.args.worker c.args.row c.args.answer c.self.invariant held answer none)

pub invariant_of-self : goal.invariant_of-self
invariant_of-self g c =
    let i = c.self.inside in
    let k = c.self.invariant in
    let e = c.file.ensures in
    let IsAnswer = g.E.Expand.answers in
    let held = subst (λ v. slice_get v.rows.states c.args.row ≡ Some (Held c.args.worker)) (sym c.self.view_is)
    c.requires.held in
    let answer = subst (λ v. ForSome (slice_get v.rows.goals c.args.row) (λ x. IsAnswer v.tag.by x c.args.answer))
    (sym c.self.view_is) c.requires.answer in
    let few : rules_in i.core.rows.states + rule_count c.args.answer ≤ i.origin.rules = omega (
      arith,
      c.if-rule_count-rules.false,
      c.rule_count.ensures,
      c.rules-2.ensures,
      c.from.ensures,
      c.rules.ensures,
      k.rules_within,
    ) in
    lawful-filing g.E.Goal.PartialEq.eq IsAnswer g.E.Expand.ready g.met.E.Goal.Key.exact g.met.E.Goal.Eq.laws.refl
    (seen i.origin i.core.rows i.core.history) c.args.worker c.args.row c.args.answer k held answer c.file.result
    c.goals-most.result c.file.new.self c.goals-most.ensures (g.met.E.Expand.arguments_ready i.origin.by) few e.room
    e.rows e.history e.over e.err

pub returns-clause-large : goal.returns-clause-large
returns-clause-large g c =
    let i = c.self.inside in
    let IsAnswer = g.E.Expand.answers in
    let held = subst (λ v. slice_get v.rows.states c.args.row ≡ Some (Held c.args.worker)) (sym c.self.view_is)
    c.requires.held in
    let answer = subst (λ v. ForSome (slice_get v.rows.goals c.args.row) (λ x. IsAnswer v.tag.by x c.args.answer))
    (sym c.self.view_is) c.requires.answer in
    subst (λ v. IfOk c.file.result (λ f. f ≡ OverLimits → IsLarge IsAnswer v.tag)) c.self.view_is
    (large-filing g.E.Goal.PartialEq.eq IsAnswer g.E.Expand.ready g.met.E.Goal.Key.exact g.met.E.Goal.Eq.laws.refl
    (seen i.origin i.core.rows i.core.history) c.args.worker c.args.row c.args.answer c.self.invariant held answer
    c.file.result c.goals-most.result c.goals-most.ensures c.file.ensures.room)
