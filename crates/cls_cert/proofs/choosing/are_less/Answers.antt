use Rattle.std.proofs.Common.{length}
use Rattle.cls_base.proofs.Lists.{AreBelow-at}
use Rattle.cls_cert.proofs.choosing.are_less.Goals as goal

pub is_less-requires : goal.is_less-requires
is_less-requires c = AreBelow-at (length c.args.ranks.now) c.args.goals.now c.loop-goal.goal-index c.requires c.loop-goal-test.true
