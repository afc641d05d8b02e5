use Rattle.std.proofs.Common.{arith}
use Rattle.cls_walk.proofs.Attempts.{too-small}
use Rattle.cls_walk.proofs.listing.list_size.Goals as goal

pub returns-then-size-least-clause-by_forms : goal.returns-then-size-least-clause-by_forms
returns-then-size-least-clause-by_forms c = λ e. too-small c.args.plan.now c.args.size c.args.cursor c.args.walk.now (omega (arith, c.if-size-least.true, c.number_of-least.ensures))
