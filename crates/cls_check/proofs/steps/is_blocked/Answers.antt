use Rattle.std.proofs.Common.{sym, ◌∙◌, arith, below_more}
use Rattle.cls_check.specs.Arguments.{argument_type}
use Rattle.cls_check.specs.Goals.{IsBelowGoal}
use Rattle.cls_check.specs.Places.{arrows_in}
use Rattle.cls_check.proofs.GoalLaws.{below_form, has_form, form_seen, all_seen}
use Rattle.cls_check.proofs.Loops.{not-false, is-true, differs}
use Rattle.cls_check.proofs.steps.is_blocked.Goals as goal

pub returns-then-has-clause-blocked : goal.returns-then-has-clause-blocked
returns-then-has-clause-blocked c =
    let A = argument_type (arrows_in c.args.lib.now c.args.place) c.args.set.now in
    let k = c.loop-argument.argument-index in
    let r = form_seen c.args.lib.now A c.args.place.n c.in_ok-arguments.arguments.items c.deref-argument-items.result.now c.deref-argument-items.ensures.value c.in_ok-arguments.ensures.count c.in_ok-arguments.ensures.each k c.argument-item.result c.argument-item.is c.loop-argument-test.true in
    ((λ t. (k, r.0, has_form c.args.lib.now c.args.goals.now (A k) c.argument-item.result r.1 (c.has.ensures.0 c.if-has.true))), (λ h. is-true))

pub loop-argument-2-init : goal.loop-argument-2-init
loop-argument-2-init c = record { none = λ k m. absurd (omega arith); known = c.requires.known }

pub is_below-requires-clause-suits : goal.is_below-requires-clause-suits
is_below-requires-clause-suits c =
    let A = argument_type (arrows_in c.args.lib.now c.args.place) c.args.set.now in
    let r = form_seen c.args.lib.now A c.args.place.n c.in_ok-arguments.arguments.items c.deref-argument-items-2.result.now c.deref-argument-items-2.ensures.value c.in_ok-arguments.ensures.count c.in_ok-arguments.ensures.each c.loop-argument-2.argument-index c.argument-item-in-loop-argument-2.result c.argument-item-in-loop-argument-2.is c.loop-argument-2-test.true in
    r.1.normal.suits

pub returns-then-branch-clause-blocked : goal.returns-then-branch-clause-blocked
returns-then-branch-clause-blocked c =
    let A = argument_type (arrows_in c.args.lib.now c.args.place) c.args.set.now in
    let k = c.loop-argument-2.argument-index in
    let r = form_seen c.args.lib.now A c.args.place.n c.in_ok-arguments.arguments.items c.deref-argument-items-2.result.now c.deref-argument-items-2.ensures.value c.in_ok-arguments.ensures.count c.in_ok-arguments.ensures.each k c.argument-item-in-loop-argument-2.result c.argument-item-in-loop-argument-2.is c.loop-argument-2-test.true in
    let x = below_form c.args.lib.now c.args.goals.now (A k) c.argument-item-in-loop-argument-2.result r.1 in
    ((λ t. (k, r.0, x.0 (c.in_ok-is_below.ensures.below.0 c.if-branch.true))), (λ h. is-true))

pub loop-argument-2-preserved : goal.loop-argument-2-preserved
loop-argument-2-preserved c =
    let A = argument_type (arrows_in c.args.lib.now c.args.place) c.args.set.now in
    let k = c.loop-argument-2.argument-index in
    let r = form_seen c.args.lib.now A c.args.place.n c.in_ok-arguments.arguments.items c.deref-argument-items-2.result.now c.deref-argument-items-2.ensures.value c.in_ok-arguments.ensures.count c.in_ok-arguments.ensures.each k c.argument-item-in-loop-argument-2.result c.argument-item-in-loop-argument-2.is c.loop-argument-2-test.true in
    let x = below_form c.args.lib.now c.args.goals.now (A k) c.argument-item-in-loop-argument-2.result r.1 in
    record {
      none = below_more (λ j. IsBelowGoal c.args.lib.now c.args.goals.now (A j) → ⊥) k c.loop-argument-2.invariant.none (λ h. differs (sym c.if-branch.false ∙ c.in_ok-is_below.ensures.below.1 (x.1 h)));
      known = c.in_ok-is_below.ensures.right;
    }

pub returns-clause-blocked : goal.returns-clause-blocked
returns-clause-blocked c = (
  (λ t. absurd (not-false t)),
  (λ h. absurd (c.loop-argument-2.invariant.none h.0 (all_seen c.in_ok-arguments.arguments.items c.deref-argument-items-2.result.now c.deref-argument-items-2.ensures.value c.args.place.n c.loop-argument-2.argument-index c.in_ok-arguments.ensures.count c.loop-argument-2-test.false h.0 h.1) h.2)),
)
