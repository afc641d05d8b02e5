use Rattle.std.proofs.Common.{subst, sym}
use Rattle.cls_term.specs.Costs.{cost_of}
use Rattle.cls_engine.specs.Engines.{EngineSeen}
use Rattle.cls_engine.specs.Outcomes.{IsOutcome}
use Rattle.cls_engine.proofs.Deciding.{more-decided}
use Rattle.cls_engine.proofs.engine.Engine.keep_outcome.Goals as goal

pub invariant_of-self : goal.invariant_of-self
invariant_of-self c =
    let i = c.self.invariant in
    let new = subst (λ (e : EngineSeen). IsOutcome e.library e.options (cost_of e.costs) c.args.goal.now c.args.outcome) (sym c.self.view_is) c.requires in
    record {
      in_range = i.in_range;
      costly = i.costly;
      kept = i.kept;
      known = i.known;
      decided = more-decided c.self.inside.library c.self.inside.options (cost_of c.self.inside.costs) c.self.inside.outcomes.kept.items i.decided c.args.goal.now c.args.outcome new c.put.new.self.kept.items c.put.ensures;
    }
