use Rattle.std.proofs.Common.{subst, IfOk}
use Rattle.cls_term.specs.Costs.{cost_of}
use Rattle.cls_engine.specs.Engines.{EngineSeen}
use Rattle.cls_engine.specs.Outcomes.{AreSizes}
use Rattle.cls_engine.proofs.Sizing.{sizes-of}
use Rattle.cls_engine.proofs.engine.Engine.sizes_of.Goals as goal

pub returns : goal.returns
returns c =
    let f = c.finite.ensures in
    subst (λ (e : EngineSeen). IfOk c.finite.result (AreSizes (cost_of e.costs) c.args.grammar.now)) c.self.view_is
    (sizes-of (cost_of c.self.inside.costs) c.args.grammar.now c.finite.result f.greatest f.over f.infinite f.walk)
