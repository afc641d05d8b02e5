use Rattle.cls_term.specs.Costs.{cost_of}
use Rattle.cls_enum.proofs.Planning.{AreFree-bounds, one-place}
use Rattle.cls_enum.proofs.plan.rule_plan.Goals as goal

pub returns-in_ok-places-in-Head-clause-ready : goal.returns-in_ok-places-in-Head-clause-ready
returns-in_ok-places-in-Head-clause-ready c = λ b s. record {
  planned = c.cost_at-cost.ensures;
  bounds = AreFree-bounds b (cost_of c.args.costs.now) s c.in_ok-places-in-Head.places.items c.in_ok-places-in-Head.ensures.free;
}

pub returns-in_ok-places-in-Any-clause-ready : goal.returns-in_ok-places-in-Any-clause-ready
returns-in_ok-places-in-Any-clause-ready c = λ b s. record {
  planned = one-place c.in_ok-places-in-Any.places.items c.in-Any.right c.in_ok-places-in-Any.ensures.nodes;
  bounds = AreFree-bounds b (cost_of c.args.costs.now) s c.in_ok-places-in-Any.places.items c.in_ok-places-in-Any.ensures.free;
}
