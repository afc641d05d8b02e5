use Rattle.std.proofs.Common.{◌≡◌, ◌+◌, ◌-◌, ℕ, [], length}
use Rattle.std.specs.Prelude.{map, slice_index_or}
use Rattle.cls_walk.proofs.stretch.Stretches.keep.Given as goal

abbrev pub invariant-loop-self : goal.invariant-loop-self
invariant-loop-self l = (n : ℕ) → slice_index_or (map (λ v. v.items) l.self-inside.columns.items) n [] ≡ slice_index_or l.fn.self n []

abbrev pub decreases-loop-self : goal.decreases-loop-self
decreases-loop-self l = l.node + 1 - length l.self-inside.columns.items
