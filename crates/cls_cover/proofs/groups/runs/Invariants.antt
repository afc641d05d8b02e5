use Rattle.std.proofs.Common.{take}
use Rattle.cls_cover.proofs.Grouping.{IsBegun}
use Rattle.cls_cover.proofs.groups.runs.Given as goal

abbrev pub invariant-loop-x : goal.invariant-loop-x
invariant-loop-x l = IsBegun l.rows (take l.x-index l.positions) l.groups l.group.items
