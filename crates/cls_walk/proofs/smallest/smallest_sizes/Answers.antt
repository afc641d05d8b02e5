use Rattle.cls_term.specs.Costs.{cost_of}
use Rattle.cls_walk.proofs.FrameLeast.{raised-more, raised-start}
use Rattle.cls_walk.proofs.smallest.smallest_sizes.Goals as goal

pub loop-round-init : goal.loop-round-init
loop-round-init c = λ book right within long.
    raised-start book (cost_of c.args.costs.now) c.args.count c.args.most c.in_ok-least.least c.requires.positive within long c.requires.some c.in_ok-least.ensures.long c.in_ok-least.ensures.ones

pub loop-round-preserved : goal.loop-round-preserved
loop-round-preserved c = λ book right within long.
    raised-more book (cost_of c.args.costs.now) c.args.count c.args.most c.args.rules.now right c.loop-round.least c.in_ok-next.next (c.loop-round.invariant book right within long) c.in_ok-next.ensures.long c.in_ok-next.ensures.each

pub returns-then-eq : goal.returns-then-eq
returns-then-eq c = λ book right within long.
    (raised-more book (cost_of c.args.costs.now) c.args.count c.args.most c.args.rules.now right c.loop-round.least c.in_ok-next.next (c.loop-round.invariant book right within long) c.in_ok-next.ensures.long c.in_ok-next.ensures.each).sizes

pub returns : goal.returns
returns c = λ book right within long. (c.loop-round.invariant book right within long).sizes
