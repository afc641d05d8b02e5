use Rattle.std.proofs.Common.{ℕ, List, take, map}
use Rattle.cls_base.specs.declared.rule.Rule.{Rule}
use Rattle.cls_walk.specs.FrameColumns.{place_of, AreFollowed, AreRules, Grows}
use Rattle.cls_walk.proofs.places.advance.Given as goal

abbrev pub invariant-loop-place : goal.invariant-loop-place
invariant-loop-place l = (book : List (List (Rule ℕ))) → AreRules book l.rules → Grows (AreFollowed book (map place_of l.above) (map place_of (take l.place-index l.old))) l.fn.places.items l.places.items
