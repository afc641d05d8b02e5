use Rattle.std.proofs.Common.{ℕ, ◌<◌}
use Rattle.cls_check.specs.Deciding.{SomeAbove, arrow_of, source_of}
use Rattle.cls_check.proofs.asked.leads_to_some_source.Given as goal

abbrev pub invariant-loop-i : goal.invariant-loop-i
invariant-loop-i l = (k : ℕ) → k < l.i → SomeAbove l.lib (source_of (arrow_of l.arrows k) l.place) l.target → ⊥
