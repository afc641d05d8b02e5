use Rattle.std.proofs.Common.{◌∙◌}
use Rattle.cls_filtered.proofs.Following.{turns-same, turns-then}
use Rattle.cls_filtered.proofs.states.States.follow_uses.Goals as goal

pub loop-step-init : goal.loop-step-init
loop-step-init c = turns-same c.args.filter.now c.args.book.now c.args.self.now

pub follow_use-requires : goal.follow_use-requires
follow_use-requires c = c.loop-step.invariant.onward.sized ∙ c.requires

pub loop-step-preserved : goal.loop-step-preserved
loop-step-preserved c =
    turns-then c.args.filter.now c.args.book.now c.args.self.now c.loop-step.self c.follow_use.new.self c.loop-step.invariant c.in_ok-follow_use.ensures
