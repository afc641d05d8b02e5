use Rattle.cls_engine.proofs.Deciding.{verdict-at}
use Rattle.cls_engine.proofs.outcomes.Outcomes.verdict.Goals as goal

pub returns : goal.returns
returns c =
    verdict-at c.args.self.now.kept.items c.in_ok-place.place c.args.goal.now c.in_ok-place.ensures c.index.result.now c.index.ensures c.verdict.result c.verdict.ensures
