use Rattle.std.proofs.Common.{map, take}
use Rattle.cls_cover.specs.Sets.{members}
use Rattle.cls_cover.specs.Choosing.{next_of, IsGivenWith}
use Rattle.cls_cover.proofs.small.add_joined.Given as goal

abbrev pub invariant-loop-x : goal.invariant-loop-x
invariant-loop-x l = IsGivenWith l.begun.families.now l.begun.count (members l.cover) (map members l.initial.list.items) (take l.x-index (next_of l.begun)) (map members l.list.items)
