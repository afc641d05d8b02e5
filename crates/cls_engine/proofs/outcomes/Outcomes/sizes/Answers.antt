use Rattle.cls_engine.proofs.Deciding.{sizes-at}
use Rattle.cls_engine.proofs.outcomes.Outcomes.sizes.Goals as goal

pub returns : goal.returns
returns c =
    sizes-at c.args.self.now.kept.items c.in_ok-place.place c.args.goal.now c.in_ok-place.ensures c.index.result.now c.index.ensures c.sizes.result c.sizes.ensures
