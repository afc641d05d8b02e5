use Rattle.std.proofs.Common.{ℕ}
use Rattle.cls_walk.specs.Counts.{HeadRule}
use Rattle.cls_walk.specs.FrameBegins.{aim_of, AreTotals}
use Rattle.cls_walk.specs.FrameColumns.{Grows}
use Rattle.cls_walk.proofs.FrameBegins.{Begun}
use Rattle.cls_walk.proofs.begin.begin_by.Given as goal

abbrev pub invariant-loop-index : goal.invariant-loop-index
invariant-loop-index l = (own : HeadRule → ℕ) → AreTotals own l.heads l.sizes → Grows (Begun own (aim_of l.aim) l.component l.count l.size l.heads l.fn.span.first l.index) l.fn.places.items l.places.items
