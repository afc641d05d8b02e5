use Rattle.std.proofs.Common.{subst}
use Rattle.std.specs.Prelude.{IfErr}
use Rattle.cls_term.specs.Costs.{cost_of}
use Rattle.cls_engine.specs.Closing.{IsClosingFault}
use Rattle.cls_engine.specs.Engines.{EngineSeen}
use Rattle.cls_engine.proofs.Deciding.{fault-known}
use Rattle.cls_engine.proofs.engine.Engine.recall.Goals as goal

pub returns : goal.returns
returns c =
    let i = c.self.inside in
    let known = fault-known i.library i.options (cost_of i.costs) i.outcomes.kept.items c.self.invariant.decided c.args.goal.now c.recall.result c.recall.ensures in
    subst (λ (e : EngineSeen). IfErr c.recall.result (IsClosingFault e.library e.options c.args.goal.now)) c.self.view_is known
