-- internal: stacks of frames that share what is below, in one column. Each frame stands on an earlier one or on none.
use Rattle.std.specs.Prelude.{ℕ, ◌≡◌, ◌+◌, ◌-◌, ◌≤◌, List, [], ◌∷◌, ◌++◌, take, drop, slice_index_or}
use Rattle.cls_walk.specs.Frames.{Place, Frame}

-- a frame, and the number of the stack that it stands on: stack 0 is empty, and stack i + 1 has frame i on top
pub record Standing : Type 0 where
  pub frame : Frame
  pub below : ℕ

-- the stacks so far, and those of the further frames
abbrev pub stacks_on : List (List Frame) → List Standing → List (List Frame)
stacks_on stacks [] = stacks
stacks_on stacks (s ∷ ss) = stacks_on (stacks ++ (s.frame ∷ slice_index_or stacks s.below []) ∷ []) ss

abbrev pub stack_at : List Standing → ℕ → List Frame
stack_at ss top = slice_index_or (stacks_on ([] ∷ []) ss) top []

-- each frame, from number `count` on, stands on an earlier one or on none
abbrev pub AreStanding : ℕ → List Standing → Type 0
AreStanding count [] = Unit {0}
AreStanding count (s ∷ ss) = (s.below ≤ count) × AreStanding (count + 1) ss

-- the stack below, how many arguments are to come, and where the places end that begin where those before it end
pub record Mark : Type 0 where
  pub below : ℕ
  pub left : ℕ
  pub last : ℕ

-- the frames whose places stand in one column, from `start` on
abbrev pub standings : List Place → ℕ → List Mark → List Standing
standings places start [] = []
standings places start (m ∷ ms) =
    record {
      frame = record { places = take (m.last - start) (drop start places); left = m.left };
      below = m.below;
    }
    ∷ standings places m.last ms

-- the places never end before they begin, and the last ones end where the column ends, or begin there
abbrev pub AreMarks : ℕ → ℕ → List Mark → Type 0
AreMarks start end [] = start ≡ end
AreMarks start end (m ∷ ms) = (start ≤ m.last) × AreMarks m.last end ms
