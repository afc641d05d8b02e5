use Rattle.std.proofs.Common.{arith, ap, ◌∙◌, ◌++◌, ◌∷◌, [], ◌+◌, length, take, slice_get}
use Rattle.cls_core.specs.Closure.{goals_of}
use Rattle.cls_expand.proofs.Adding.{with-goal, up-to, more-goals, more-numbers, all-below}
use Rattle.cls_expand.proofs.additions.number_rows.Goals as goal

pub number_goal-requires : goal.number_goal-requires
number_goal-requires g c =
    let eq = g.G.PartialEq.eq in
    let gs = c.args.goals.now.keys in
    let xs = goals_of c.args.rows.now in
    let r = with-goal (slice_get c.args.rows.now c.loop-row.row) c.goal.result.now c.goal.ensures in
    let up = up-to c.args.rows.now c.loop-row.row r.0 r.2 in
    let next = more-goals eq gs (gs ++ c.loop-row.added.keys) (take c.loop-row.row xs) (take (c.loop-row.row + 1) xs) c.goal.result.now (up.1 ∙ ap (λ x. take c.loop-row.row xs ++ x ∷ []) r.1) c.loop-row.invariant.0 in
    record { room = omega (arith, ap length next, all-below eq gs xs (c.loop-row.row + 1), c.requires.room) }

pub loop-row-preserved : goal.loop-row-preserved
loop-row-preserved g c =
    let eq = g.G.PartialEq.eq in
    let gs = c.args.goals.now.keys in
    let xs = goals_of c.args.rows.now in
    let r = with-goal (slice_get c.args.rows.now c.loop-row.row) c.goal.result.now c.goal.ensures in
    let up = up-to c.args.rows.now c.loop-row.row r.0 r.2 in
    let next = up.1 ∙ ap (λ x. take c.loop-row.row xs ++ x ∷ []) r.1 in
    let i = c.loop-row.invariant in (
      c.in_ok-number_goal.ensures.added ∙ more-goals eq gs _ (take c.loop-row.row xs) (take (c.loop-row.row + 1) xs) c.goal.result.now next i.0,
      more-numbers eq gs _ (take c.loop-row.row xs) (take (c.loop-row.row + 1) xs) c.goal.result.now _ _ _ next i.0 i.1 c.in_ok-number_goal.ensures.number c.in_ok-push.ensures.items,
    )
