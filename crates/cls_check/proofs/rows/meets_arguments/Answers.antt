use Rattle.std.proofs.Common.{sym, ◌∙◌, arith, below_more}
use Rattle.cls_check.specs.Arguments.{argument_type}
use Rattle.cls_check.specs.Goals.{IsAboveGoal}
use Rattle.cls_check.specs.Places.{arrows_in}
use Rattle.cls_check.proofs.GoalLaws.{above_form, form_seen, all_seen}
use Rattle.cls_check.proofs.Loops.{not-false, is-true, differs}
use Rattle.cls_check.proofs.rows.meets_arguments.Goals as goal

pub loop-argument-init : goal.loop-argument-init
loop-argument-init c = record { met = λ k m. absurd (omega arith); known = c.requires.known }

pub is_above-requires-clause-suits : goal.is_above-requires-clause-suits
is_above-requires-clause-suits c =
    let r = form_seen c.args.lib.now (argument_type (arrows_in c.args.lib.now c.args.place) c.args.positions.now) c.args.place.n c.in_ok-arguments.arguments.items c.deref-argument-items.result.now c.deref-argument-items.ensures.value c.in_ok-arguments.ensures.count c.in_ok-arguments.ensures.each c.loop-argument.argument-index c.argument-item.result c.argument-item.is c.loop-argument-test.true in
    r.1.normal.suits

pub returns-then-not-branch-clause-meets : goal.returns-then-not-branch-clause-meets
returns-then-not-branch-clause-meets c =
    let A = argument_type (arrows_in c.args.lib.now c.args.place) c.args.positions.now in
    let k = c.loop-argument.argument-index in
    let r = form_seen c.args.lib.now A c.args.place.n c.in_ok-arguments.arguments.items c.deref-argument-items.result.now c.deref-argument-items.ensures.value c.in_ok-arguments.ensures.count c.in_ok-arguments.ensures.each k c.argument-item.result c.argument-item.is c.loop-argument-test.true in
    let x = above_form c.args.lib.now c.args.goals.now (A k) c.argument-item.result r.1 in
    ((λ t. absurd (not-false t)), (λ h. absurd (differs (sym c.if-not-branch.true ∙ c.in_ok-is_above.ensures.above.1 (x.1 (h k r.0))))))

pub loop-argument-preserved : goal.loop-argument-preserved
loop-argument-preserved c =
    let A = argument_type (arrows_in c.args.lib.now c.args.place) c.args.positions.now in
    let k = c.loop-argument.argument-index in
    let r = form_seen c.args.lib.now A c.args.place.n c.in_ok-arguments.arguments.items c.deref-argument-items.result.now c.deref-argument-items.ensures.value c.in_ok-arguments.ensures.count c.in_ok-arguments.ensures.each k c.argument-item.result c.argument-item.is c.loop-argument-test.true in
    let x = above_form c.args.lib.now c.args.goals.now (A k) c.argument-item.result r.1 in
    record {
      met = below_more (λ j. IsAboveGoal c.args.lib.now c.args.goals.now (A j)) k c.loop-argument.invariant.met (x.0 (c.in_ok-is_above.ensures.above.0 c.if-not-branch.false));
      known = c.in_ok-is_above.ensures.met;
    }

pub returns-clause-meets : goal.returns-clause-meets
returns-clause-meets c = (
  (λ t i l. c.loop-argument.invariant.met i (all_seen c.in_ok-arguments.arguments.items c.deref-argument-items.result.now c.deref-argument-items.ensures.value c.args.place.n c.loop-argument.argument-index c.in_ok-arguments.ensures.count c.loop-argument-test.false i l)),
  (λ h. is-true),
)
