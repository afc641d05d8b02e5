use Rattle.cls_check.specs.Deciding.{SomeAbove, arrow_of, source_of}
use Rattle.cls_check.specs.Found.{Adds, HasOne}
use Rattle.cls_check.specs.Places.{arrows_in}
use Rattle.cls_check.proofs.found.put_sources.Given as goal

abbrev pub invariant-loop-i : goal.invariant-loop-i
invariant-loop-i l = Adds (arrows_in l.lib l.place) (HasOne (λ k p. SomeAbove l.lib (source_of (arrow_of l.arrows k) l.at) p) l.i) l.initial.positions.items l.positions.items
