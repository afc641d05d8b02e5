use Rattle.std.proofs.Common.{vec_len}
use Rattle.cls_path.proofs.GroupLaws.{AreJoined}
use Rattle.cls_path.proofs.groups.+reduced.Given as goal

abbrev pub invariant-loop-group : goal.invariant-loop-group
invariant-loop-group g l =
    AreJoined (g.T.Taxa.is_below l.taxa) (g.T.Taxa.variance_of_name l.taxa) l.fn.paths.items l.groups.items l.least.items

abbrev pub decreases-loop-group : goal.decreases-loop-group
decreases-loop-group g l = vec_len l.groups

abbrev pub decreases-reduced : goal.decreases-reduced
decreases-reduced g l = l.rounds
