use Rattle.std.proofs.Common.{ap, arith, map, ◌∙◌}
use Rattle.cls_term.specs.Costs.{cost_of}
use Rattle.cls_walk.proofs.Sizes.{table-next, table-whole}
use Rattle.cls_walk.proofs.least.form_sizes.Goals as goal

pub loop-forms_of_node-preserved : goal.loop-forms_of_node-preserved
loop-forms_of_node-preserved c = table-next (cost_of c.args.costs.now) c.args.least.now (λ v. v.items) c.deref-forms_of_node-items.result.now c.args.forms.now c.loop-forms_of_node.forms_of_node-index c.forms_of_node-item.result c.as_slice.result.now c.loop-forms_of_node.sizes c.push.new.self c.in_ok-node_sizes.field-0.items
    (ap (λ vs. map (λ v. v.items) vs) c.deref-forms_of_node-items.ensures.value ∙ c.forms.view_is)
    (omega (arith, c.loop-forms_of_node-test.true)) c.forms_of_node-item.is c.as_slice.ensures.value c.loop-forms_of_node.invariant c.in_ok-node_sizes.ensures c.in_ok-push.ensures.ok

pub returns : goal.returns
returns c = table-whole (cost_of c.args.costs.now) c.args.least.now (λ v. v.items) c.deref-forms_of_node-items.result.now c.args.forms.now c.loop-forms_of_node.forms_of_node-index c.loop-forms_of_node.sizes
    (ap (λ vs. map (λ v. v.items) vs) c.deref-forms_of_node-items.ensures.value ∙ c.forms.view_is)
    (omega (arith, c.loop-forms_of_node-test.false)) c.loop-forms_of_node.invariant
