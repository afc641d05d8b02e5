use Rattle.std.proofs.Common.{◌∙◌, refl, sym}
use Rattle.cls_walk.proofs.FrameColumns.{found, not-found, apart, no-place}
use Rattle.cls_walk.proofs.FrameSteps.{same, equal}
use Rattle.cls_walk.proofs.places.is_complete.Goals as goal
use Rattle.cls_walk.proofs.places.is_complete.Goals.{else-place-node-via-then-place-node+else-is_empty, else-place-node-via-else-place-node}

pub returns-then-is_empty : goal.returns-then-is_empty
returns-then-is_empty c = (
  λ _. found c.args.places.now c.loop-place.place-index no-place c.args.node c.loop-place-test.true c.if-place-node.true (same _ _ (sym c.is_empty.ensures ∙ c.if-is_empty.true)),
  λ _. refl,
)

pub loop-place-preserved : goal.loop-place-preserved
loop-place-preserved c = not-found c.args.places.now c.loop-place.place-index no-place c.args.node c.loop-place-test.true c.loop-place.invariant (λ e r. elim c.else-place-node.branch [
  | else-place-node-via-then-place-node+else-is_empty w ↦ apart (sym (equal _ _ r) ∙ sym w.is_empty.ensures ∙ w.if-is_empty.false)
  | else-place-node-via-else-place-node w ↦ w.if-place-node.false e
])
