use Rattle.std.proofs.Common.{◌+◌, ◌-◌, ◌*◌}
use Rattle.cls_workers.proofs.run.+fn-run_from-join+arg3+run_from.Given as goal

abbrev pub decreases-join+arg3 : goal.decreases-join+arg3
decreases-join+arg3 g l = 2 * (l.last + 1 - l.next) - 1

abbrev pub decreases-run_from : goal.decreases-run_from
decreases-run_from g l = 2 * (l.last + 1 - l.next)
