use Rattle.cls_walk.proofs.Pools.{refused, accepted}
use Rattle.cls_walk.proofs.laws.counts_decide.Goals as goal

pub returns : goal.returns
returns c = λ book r h known s l m pool. (
  refused book r h.positive known h.some h.ordered s l m pool,
  accepted book r h.positive known h.some s l pool,
)
