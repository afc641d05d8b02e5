use Rattle.std.proofs.Common.{sym, subst}
use Rattle.cls_term.specs.Costs.{cost_of}
use Rattle.cls_engine.specs.declared.outcomes.Outcome.{Outcome}
use Rattle.cls_engine.specs.Outcomes.{IsOutcome}
use Rattle.cls_engine.proofs.engine.Engine.keep_sizes.Goals as goal

pub keep_outcome-requires : goal.keep_outcome-requires
keep_outcome-requires c =
    let s = c.args.self.now in
    subst (λ (outcome : Outcome). IsOutcome s.library s.options (cost_of s.costs) c.args.goal.now outcome) (sym c.in-Some.ensures) c.requires
