use Rattle.std.proofs.Common.{◌≡◌, true, sym, ◌∙◌}
use Rattle.std.proofs.lemmas.Result.{on_ok_weaker}
use Rattle.cls_filtered.specs.States.{is_known}
use Rattle.cls_filtered.proofs.Following.{joins-unknown, joins-none, joins-some}
use Rattle.cls_filtered.proofs.states.States.join_at.Goals as goal

pub returns-then-not-has : goal.returns-then-not-has
returns-then-not-has c =
    joins-unknown c.args.filter.now c.args.node c.args.left.0 c.args.left.1 c.args.right.0 c.args.right.1 c.args.self.now (sym c.has.ensures ∙ c.if-not-has.true)

pub reach-requires-clause-state : goal.reach-requires-clause-state
reach-requires-clause-state c = c.in-Some.ensures.small

pub returns-in-Some : goal.returns-in-Some
returns-in-Some c =
    let known : is_known c.args.self.now.flags c.args.right.0 c.args.right.1 ≡ true = sym c.has.ensures ∙ c.if-not-has.false in
    on_ok_weaker c.reach.result
    (λ h. joins-some c.args.filter.now c.args.node c.args.left.0 c.args.left.1 c.args.right.0 c.args.right.1 c.in-Some.state c.args.self.now c.reach.new.self c.requires.left c.requires.right (sym c.in-Some.ensures.state) known h)
    c.reach.ensures

pub returns-in-None : goal.returns-in-None
returns-in-None c =
    joins-none c.args.filter.now c.args.node c.args.left.0 c.args.left.1 c.args.right.0 c.args.right.1 c.args.self.now (sym c.in-None.ensures.state)
