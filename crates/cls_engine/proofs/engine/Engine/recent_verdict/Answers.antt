use Rattle.std.proofs.Common.{subst}
use Rattle.std.specs.Prelude.{IfSome}
use Rattle.cls_term.specs.Costs.{cost_of}
use Rattle.cls_engine.specs.Engines.{EngineSeen}
use Rattle.cls_engine.specs.Outcomes.{IsVerdictOn}
use Rattle.cls_engine.proofs.Deciding.{verdict-known}
use Rattle.cls_engine.proofs.engine.Engine.recent_verdict.Goals as goal

pub returns : goal.returns
returns c =
    let i = c.self.inside in
    let known = verdict-known i.library i.options (cost_of i.costs) i.outcomes.kept.items c.self.invariant.decided c.self.invariant.costly c.args.goal.now c.verdict.result c.verdict.ensures in
    subst (λ (e : EngineSeen). IfSome c.verdict.result (IsVerdictOn e.library e.options c.args.goal.now)) c.self.view_is known
