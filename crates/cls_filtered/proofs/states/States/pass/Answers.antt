use Rattle.std.proofs.Common.{◌∙◌, arith}
use Rattle.std.proofs.lemmas.Bool.{false≢true, true≢false}
use Rattle.cls_filtered.proofs.Following.{passes-begun, passes-more, passes-closed, keeps-turns, keeps-then}
use Rattle.cls_filtered.proofs.states.States.pass.Goals as goal

pub loop-node-init : goal.loop-node-init
loop-node-init c = passes-begun c.args.filter.now c.args.book.now c.args.self.now

pub follow_node-requires-clause-node : goal.follow_node-requires-clause-node
follow_node-requires-clause-node c = omega (arith, c.loop-node-test.true, c.count-node-end.ensures)

pub follow_node-requires-clause-sized : goal.follow_node-requires-clause-sized
follow_node-requires-clause-sized c = c.loop-node.invariant.turns.onward.sized ∙ c.requires

pub loop-node-preserved : goal.loop-node-preserved
loop-node-preserved c =
    passes-more c.args.filter.now c.args.book.now c.loop-node.node c.args.self.now c.loop-node.self c.follow_node.new.self c.loop-node.invariant c.in_ok-follow_node.ensures

pub drain-requires : goal.drain-requires
drain-requires c = c.loop-node.invariant.turns.onward.sized ∙ c.requires

pub returns-then-after-before-clause-keeps : goal.returns-then-after-before-clause-keeps
returns-then-after-before-clause-keeps c =
    keeps-turns c.args.filter.now c.args.book.now c.args.self.now c.loop-node.self c.loop-node.invariant.turns

pub returns-then-after-before-clause-closed : goal.returns-then-after-before-clause-closed
returns-then-after-before-clause-closed c = λ none.
    passes-closed c.args.filter.now c.args.book.now c.loop-node.node c.args.self.now c.loop-node.self (omega (arith, c.loop-node-test.false, c.count-node-end.ensures)) c.loop-node.invariant (omega (arith, c.if-after-before.true, c.known-before.ensures, c.known-after.ensures))

pub returns-then-after-before-clause-more : goal.returns-then-after-before-clause-more
returns-then-after-before-clause-more c = λ some. absurd (false≢true some)

pub returns-clause-keeps : goal.returns-clause-keeps
returns-clause-keeps c =
    keeps-then c.args.filter.now c.args.book.now c.args.self.now c.loop-node.self c.drain.new.self
    (keeps-turns c.args.filter.now c.args.book.now c.args.self.now c.loop-node.self c.loop-node.invariant.turns) c.in_ok-drain.ensures

pub returns-clause-closed : goal.returns-clause-closed
returns-clause-closed c = λ none. absurd (true≢false none)

pub returns-clause-more : goal.returns-clause-more
returns-clause-more c = λ some. omega (arith, c.if-after-before.false, c.known-before.ensures, c.known-after.ensures, c.in_ok-drain.ensures.no_less)
