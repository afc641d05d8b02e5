use Rattle.std.proofs.Common.{List, Bool, length, ap, ◌∙◌, arith}
use Rattle.cls_filtered.proofs.Onward.{turn-taken}
use Rattle.cls_filtered.proofs.Following.{keeps-same, keeps-turns, keeps-then, keeps-taken}
use Rattle.cls_filtered.proofs.states.States.drain.Goals as goal

pub loop-node-init : goal.loop-node-init
loop-node-init c = keeps-same c.args.filter.now c.args.book.now c.args.self.now

pub follow_uses-requires : goal.follow_uses-requires
follow_uses-requires c =
    ap (λ (fs : List Bool). length fs) c.in-Some.ensures.flags ∙ (c.loop-node.invariant.sized ∙ c.requires)

pub loop-node-preserved : goal.loop-node-preserved
loop-node-preserved c =
    keeps-then c.args.filter.now c.args.book.now c.args.self.now _ c.follow_uses.new.self
    (keeps-taken c.args.filter.now c.args.book.now c.args.self.now c.loop-node.self _ c.loop-node.invariant c.in-Some.ensures.flags)
    (keeps-turns c.args.filter.now c.args.book.now _ c.follow_uses.new.self c.in_ok-follow_uses.ensures)

pub loop-node-smaller : goal.loop-node-smaller
loop-node-smaller c =
    let taken = turn-taken c.loop-node.self _ c.in-Some.ensures.flags c.in-Some.ensures.less in
    let turned = c.in_ok-follow_uses.ensures.onward.less in
    omega (arith, taken, turned)

pub returns : goal.returns
returns c = keeps-taken c.args.filter.now c.args.book.now c.args.self.now c.loop-node.self _ c.loop-node.invariant c.in_default.ensures.flags
