use Rattle.std.proofs.Common.{take}
use Rattle.cls_walk.specs.Counts.{heads_of}
use Rattle.cls_walk.specs.Lasts.{EndWith}
use Rattle.cls_walk.proofs.order.are_in_order.Given as goal

abbrev pub invariant-loop-place : goal.invariant-loop-place
invariant-loop-place l = EndWith l.last (heads_of ((take l.place l.rules)))
