use Rattle.std.proofs.Common.{arith, ap, subst, ◌≡◌, ◌<◌, ◌≤◌, ◌∙◌, ◌+◌, length}
use Rattle.std.specs.Prelude.{IfNone, IfSome}
use Rattle.std.specs.List.{position_or_len}
use Rattle.indexmap.specs.IndexSet.{insert_key}
use Rattle.cls_core.proofs.Insertion.{goal-step, number-step, all-take, goes_on}
use Rattle.cls_core.proofs.numbering.number_goals.Goals as goal

pub returns-in_default-clause-many : goal.returns-in_default-clause-many
returns-in_default-clause-many g c =
    let gs = c.args.rows.now.keys in
    let xs = c.args.goals.now in
    let eq = g.G.PartialEq.eq in
    let ks = c.loop-goal.rows.keys in
    let next = goal-step eq gs xs ks c.loop-goal.goal-index c.goal-item.result c.loop-goal-test.true c.loop-goal.invariant.added c.goal-item.is in
    let over = subst (λ r. IfNone r (c.args.most < length (insert_key eq ks c.goal-item.result))) c.in_default.is c.in_ok-number.ensures.many in
    omega (arith, over, ap length next, all-take eq gs xs (c.loop-goal.goal-index + 1))

pub loop-goal-preserved : goal.loop-goal-preserved
loop-goal-preserved g c =
    let eq = g.G.PartialEq.eq in
    let gs = c.args.rows.now.keys in
    let xs = c.args.goals.now in
    let x = c.goal-item.result in
    let old = c.loop-goal.rows.keys in
    let new = c.number_goal.new.rows.keys in
    let i = c.loop-goal.invariant in
    let added = subst (λ r. IfSome r (λ _. new ≡ insert_key eq old x)) c.in-Some.is c.in_ok-number.ensures.added in
    let number = subst (λ r. IfSome r (λ n. n ≡ position_or_len (eq x) old)) c.in-Some.is c.in_ok-number.ensures.number in
    let few = subst (λ r. IfSome r (λ _. length new ≤ c.args.most)) c.in-Some.is c.in_ok-number.ensures.few in record {
      added = added ∙ goal-step eq gs xs old c.loop-goal.goal-index x c.loop-goal-test.true i.added c.goal-item.is;
      numbered = number-step eq gs xs old _ _ _ c.loop-goal.goal-index x c.loop-goal-test.true i.added c.goal-item.is i.numbered number c.in_ok-push.ensures.items;
      few = few;
      front = goes_on gs old new i.front c.in_ok-number.ensures.front;
    }
