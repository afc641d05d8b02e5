use Rattle.std.proofs.Common.{◌≡◌, ◌++◌, map, reverse, vec_len}
use Rattle.cls_cover.specs.Sets.{members}
use Rattle.cls_cover.proofs.small.from_greatest.Given as goal

abbrev pub invariant-loop-set : goal.invariant-loop-set
invariant-loop-set l = l.lists ++ map members (reverse l.sets.items) ≡ map members (reverse l.initial.sets.items)

abbrev pub decreases-loop-set : goal.decreases-loop-set
decreases-loop-set l = vec_len l.sets
