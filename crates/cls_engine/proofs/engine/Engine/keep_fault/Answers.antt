use Rattle.cls_term.specs.Costs.{cost_of}
use Rattle.cls_engine.proofs.Deciding.{outcome-of}
use Rattle.cls_engine.proofs.engine.Engine.keep_fault.Goals as goal

pub keep_outcome-requires : goal.keep_outcome-requires
keep_outcome-requires c =
    outcome-of c.args.self.now.library c.args.self.now.options (cost_of c.args.self.now.costs) c.args.goal.now c.args.fault.now c.requires c.in-Some.outcome c.in-Some.ensures
