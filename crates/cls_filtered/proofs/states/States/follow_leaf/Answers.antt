use Rattle.std.proofs.Common.{sym}
use Rattle.std.proofs.lemmas.Result.{on_ok_weaker}
use Rattle.cls_filtered.proofs.Following.{follows-leaf, follows-none}
use Rattle.cls_filtered.proofs.states.States.follow_leaf.Goals as goal

pub reach-requires-clause-state : goal.reach-requires-clause-state
reach-requires-clause-state c = c.in-Some.ensures.small

pub returns-in-Some : goal.returns-in-Some
returns-in-Some c =
    on_ok_weaker c.reach.result
    (λ h. follows-leaf c.args.filter.now c.args.node c.args.component c.in-Some.state c.args.self.now c.reach.new.self (sym c.in-Some.ensures.state) h)
    c.reach.ensures

pub returns-in-None : goal.returns-in-None
returns-in-None c = follows-none c.args.filter.now c.args.node c.args.component c.args.self.now (sym c.in-None.ensures.state)
