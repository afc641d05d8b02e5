use Rattle.std.proofs.Common.{arith}
use Rattle.cls_filtered.proofs.Following.{turns-same}
use Rattle.cls_filtered.proofs.states.States.follow_use.Goals as goal

pub returns-then-step-count : goal.returns-then-step-count
returns-then-step-count c = turns-same c.args.filter.now c.args.book.now c.args.self.now

pub follow_step-requires-clause-node : goal.follow_step-requires-clause-node
follow_step-requires-clause-node c = omega (arith, c.if-step-count.false, c.count-count.ensures)
