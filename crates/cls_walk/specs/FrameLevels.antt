-- internal: the levels of the code, which are the aims of all levels of all stacks in one column
use Rattle.std.specs.Prelude.{ℕ, zero, suc, ◌≡◌, ◌-◌, ◌≤◌, List, [], ◌∷◌, length, map, take, drop, slice_index, slice_index_or}
use Rattle.cls_walk.specs.FrameBegins.{aim_of}
use Rattle.cls_walk.specs.declared.aims.Levels as levels

-- a column cut at these places, from `start` on
abbrev pub cuts : {A : Type 0} → List A → ℕ → List ℕ → List (List A)
cuts xs start [] = []
cuts xs start (e ∷ es) = take (e - start) (drop start xs) ∷ cuts xs e es

-- the places rise, and the last one is the end
abbrev pub AreCuts : ℕ → ℕ → List ℕ → Type 0
AreCuts start end [] = start ≡ end
AreCuts start end (e ∷ es) = (start ≤ e) × AreCuts e end es

-- where the part with this number begins
abbrev pub cut_start : List ℕ → ℕ → ℕ
cut_start es zero = 0
cut_start es (suc i) = slice_index es i

-- the levels of all stacks, one stack after another
abbrev pub all_levels : levels.Levels → List (List (ℕ × ℕ))
all_levels l = cuts (map aim_of l.aims.items) 0 l.ends.items

-- level q of a stack; past the last one there are no aims
abbrev pub levels_of : levels.Levels → ℕ → ℕ → List (ℕ × ℕ)
levels_of l stack q = slice_index_or (slice_index_or (cuts (all_levels l) 0 l.stacks.items) stack []) q []

pub record AreLevelColumns (l : levels.Levels) : Type 0 where
  pub aims : AreCuts 0 (length l.aims.items) l.ends.items
  pub levels : AreCuts 0 (length l.ends.items) l.stacks.items

-- levels are added behind those that were there
pub record AreGrownLevels (old new : levels.Levels) : Type 0 where
  pub aims : take (length old.aims.items) new.aims.items ≡ old.aims.items
  pub ends : take (length old.ends.items) new.ends.items ≡ old.ends.items
  pub stacks : take (length old.stacks.items) new.stacks.items ≡ old.stacks.items

pub record AreSameLevels (old new : levels.Levels) : Type 0 where
  pub aims : new.aims.items ≡ old.aims.items
  pub ends : new.ends.items ≡ old.ends.items
  pub stacks : new.stacks.items ≡ old.stacks.items
