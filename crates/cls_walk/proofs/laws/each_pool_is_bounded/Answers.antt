use Rattle.cls_walk.proofs.Pools.{between}
use Rattle.cls_walk.proofs.laws.each_pool_is_bounded.Goals as goal

pub returns : goal.returns
returns c = λ book r h known s l. between book r h.positive known h.some h.ordered s l
