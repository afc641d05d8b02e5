use Rattle.std.proofs.Common.{arith}
use Rattle.cls_term.specs.Costs.{cost_of}
use Rattle.cls_walk.proofs.Rounds.{least-next}
use Rattle.cls_walk.proofs.least.node_size.Goals as goal

pub loop-form-preserved : goal.loop-form-preserved
loop-form-preserved c = least-next (cost_of c.args.costs.now) c.args.least.now c.args.most c.args.forms.now c.loop-form.form-index c.form-item.result c.loop-form.best c.size_of_form.result c.lesser-best.result (omega (arith, c.loop-form-test.true)) c.form-item.is (omega (arith, c.ranges.most.fits)) c.loop-form.invariant c.size_of_form.ensures c.lesser-best.ensures
