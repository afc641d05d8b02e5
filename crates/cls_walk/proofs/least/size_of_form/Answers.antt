use Rattle.std.proofs.Common.{List, ℕ, arith, ap, ◌∙◌, reverse}
use Rattle.cls_term.specs.Costs.{cost_of}
use Rattle.cls_walk.proofs.Rounds.{size-next, size-whole}
use Rattle.cls_walk.proofs.least.size_of_form.Goals as goal

pub loop-node-preserved : goal.loop-node-preserved
loop-node-preserved c = size-next (cost_of c.args.costs.now c.args.form.now.0) c.args.least.now c.deref-node-items.result.now c.loop-node.node-index c.loop-node.total c.from.result c.plus-total.result (omega (arith, c.loop-node-test.true)) c.loop-node.invariant (c.from.ensures ∙ c.number_of.ensures) c.plus-total.ensures

pub returns : goal.returns
returns c = size-whole (cost_of c.args.costs.now c.args.form.now.0) c.args.least.now c.deref-node-items.result.now c.loop-node.node-index c.loop-node.total c.args.form.now c.form.inside.component
    (ap (λ (ms : List ℕ). (c.form.inside.component, reverse ms)) c.deref-node-items.ensures.value ∙ c.form.view_is)
    (omega (arith, c.loop-node-test.false)) c.loop-node.invariant
