use Rattle.std.proofs.Common.{ℕ, map, take}
use Rattle.cls_walk.specs.Counts.{HeadRule}
use Rattle.cls_walk.specs.FrameBegins.{aim_of, AreBegun, AreSized}
use Rattle.cls_walk.specs.FrameColumns.{Grows}
use Rattle.cls_walk.proofs.begin.begin_at.Given as goal

abbrev pub invariant-loop-aim : goal.invariant-loop-aim
invariant-loop-aim l = (own : HeadRule → ℕ) → AreSized own l.fn.guide.rules.now l.fn.guide.sizes.now → Grows (AreBegun own l.fn.guide.rules.now (map aim_of (take l.aim-index l.level)) l.component l.count l.size) l.fn.places.items l.places.items
