use Rattle.std.proofs.Common.{subst}
use Rattle.std.specs.Prelude.{IfSome}
use Rattle.cls_engine.specs.Closing.{IsKnown}
use Rattle.cls_engine.specs.Engines.{EngineSeen}
use Rattle.cls_engine.proofs.Keeping.{taken-known}
use Rattle.cls_engine.proofs.engine.Engine.take_recent.Goals as goal

pub returns-clause-known : goal.returns-clause-known
returns-clause-known c =
    let known = taken-known c.self.inside.library c.self.inside.options c.self.inside.recents.kept.items c.self.invariant.known c.args.goal.now c.take.result c.take.ensures.of_goal c.take.ensures.kept in
    subst (λ (e : EngineSeen). IfSome c.take.result (IsKnown e.library e.options c.args.goal.now)) c.self.view_is known
