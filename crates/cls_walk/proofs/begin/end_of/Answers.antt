use Rattle.cls_walk.proofs.FrameBegins.{none-behind}
use Rattle.cls_walk.proofs.begin.end_of.Goals as goal
use Rattle.cls_walk.proofs.begin.end_of.Goals.{then-head-component-via-then-head-component, then-head-component-via-else-head-component+then-head-count}

pub returns-then-head-component-clause-none : goal.returns-then-head-component-clause-none
returns-then-head-component-clause-none c = λ o f.
    none-behind c.args.heads.now c.args.first c.loop-index.index c.args.component c.args.count c.loop-index.invariant c.loop-index-test.true o f (λ e r. elim c.then-head-component.branch [
      | then-head-component-via-then-head-component w ↦ w.if-head-component.true e
      | then-head-component-via-else-head-component+then-head-count w ↦ w.if-head-count.true r
    ])
