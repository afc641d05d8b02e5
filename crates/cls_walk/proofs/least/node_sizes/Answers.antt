use Rattle.std.proofs.Common.{arith}
use Rattle.cls_term.specs.Costs.{cost_of}
use Rattle.cls_walk.proofs.Sizes.{sizes-next, sizes-whole}
use Rattle.cls_walk.proofs.least.node_sizes.Goals as goal

pub loop-form-preserved : goal.loop-form-preserved
loop-form-preserved c = sizes-next (cost_of c.args.costs.now) c.args.least.now c.args.forms.now c.loop-form.form-index c.form-item.result c.loop-form.sizes.items c.push.new.self.items c.size_of_form.result
    (omega (arith, c.loop-form-test.true)) c.form-item.is c.loop-form.invariant c.size_of_form.ensures c.in_ok-push.ensures.items

pub returns : goal.returns
returns c = sizes-whole (cost_of c.args.costs.now) c.args.least.now c.args.forms.now c.loop-form.form-index c.loop-form.sizes.items (omega (arith, c.loop-form-test.false)) c.loop-form.invariant
