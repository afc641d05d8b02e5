use Rattle.std.proofs.Common.{subst}
use Rattle.std.specs.Prelude.{IfSome}
use Rattle.cls_term.specs.Costs.{cost_of}
use Rattle.cls_engine.specs.Engines.{EngineSeen}
use Rattle.cls_engine.specs.Outcomes.{AreSizesOf}
use Rattle.cls_engine.proofs.Deciding.{sizes-known}
use Rattle.cls_engine.proofs.engine.Engine.recent_sizes.Goals as goal

pub returns : goal.returns
returns c =
    let i = c.self.inside in
    let known = sizes-known i.library i.options (cost_of i.costs) i.outcomes.kept.items c.self.invariant.decided c.args.goal.now c.sizes.result c.sizes.ensures in
    subst (λ (e : EngineSeen). IfSome c.sizes.result (AreSizesOf e.library e.options (cost_of e.costs) c.args.goal.now)) c.self.view_is known
