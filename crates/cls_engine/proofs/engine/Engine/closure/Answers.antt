use Rattle.std.proofs.Common.{rules}
use Rattle.cls_base.specs.Ty.{type_of}
use Rattle.cls_engine.proofs.Faulting.{by_closing}
use Rattle.cls_engine.proofs.engine.Engine.closure.Goals as goal

pub returns-in_err-close-clause-fault : goal.returns-in_err-close-clause-fault
returns-in_err-close-clause-fault g c =
    let h = by_closing c.args.self.now.library c.args.self.now.options (type_of c.args.ty.now) c.in_ok-goal.goal c.in_ok-goal.ensures.goal c.in_ok-goal.ensures.narrow c.in_ok-goal.ensures.ready
    c.in_err-close.field-0.0 (rw c.take_recent.ensures.same at c.in_err-close.ensures.fault) in
    search (rules, h)
