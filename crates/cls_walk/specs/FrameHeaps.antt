-- internal: the frames of the code, which are marks, and the places in one column
use Rattle.std.specs.Prelude.{ℕ, zero, suc, ◌≡◌, ◌+◌, ◌-◌, ◌≤◌, ◌<◌, List, [], ◌∷◌, length, map, take, drop, slice_index_or}
use Rattle.cls_base.specs.declared.rule.Rule.{Rule}
use Rattle.cls_walk.specs.FrameColumns.{place_of, AreRules}
use Rattle.cls_walk.specs.FrameStacks.{Mark, Standing, standings, stack_at, AreMarks, AreStanding}
use Rattle.cls_walk.specs.Frames.{Place, Frame, AreAsking, IsAdvanced, IsComplete, Settles}
use Rattle.cls_walk.specs.declared.standing.Mark as mark
use Rattle.cls_walk.specs.declared.standing.Frames as frames
use Rattle.cls_walk.specs.declared.rules.Rules as rules

abbrev pub mark_of : mark.Mark → Mark
mark_of m = record { below = m.below; left = m.left; last = m.last }

abbrev pub no_mark : mark.Mark
no_mark = record { below = 0; left = 0; last = 0 }

-- the places of frame i, where those of the first one begin at `start`
abbrev pub places_at : List Place → ℕ → List Mark → ℕ → List Place
places_at places start [] i = []
places_at places start (m ∷ ms) zero = take (m.last - start) (drop start places)
places_at places start (m ∷ ms) (suc i) = places_at places m.last ms i

abbrev pub frame_of : List Place → ℕ → ℕ → Standing
frame_of places left below = record { frame = record { places = places; left = left }; below = below }

abbrev pub standings_of : frames.Frames → List Standing
standings_of f = standings (map place_of f.places.items) 0 (map mark_of f.marks.items)

abbrev pub stack_of : frames.Frames → ℕ → List Frame
stack_of f top = stack_at (standings_of f) top

-- the marks are in order, and each frame stands on an earlier one or on none
pub record AreFrames (f : frames.Frames) : Type 0 where
  pub marks : AreMarks 0 (length f.places.items) (map mark_of f.marks.items)
  pub standing : AreStanding 0 (standings_of f)

-- further frames stand behind those that were there
pub record AreGrown (old new : frames.Frames) : Type 0 where
  pub marks : take (length old.marks.items) new.marks.items ≡ old.marks.items
  pub places : take (length old.places.items) new.places.items ≡ old.places.items

pub record AreSameFrames (old new : frames.Frames) : Type 0 where
  pub marks : new.marks.items ≡ old.marks.items
  pub places : new.places.items ≡ old.places.items

-- each further frame stands where one stands that was there, and has no more arguments to come
abbrev pub AreBelow : frames.Frames → frames.Frames → Type 0
AreBelow old new =
    (i : ℕ) → length old.marks.items ≤ i → i < length new.marks.items
    → (j : ℕ) × (j < length old.marks.items)
    × ((slice_index_or new.marks.items i no_mark).below ≡ (slice_index_or old.marks.items j no_mark).below)
    × ((slice_index_or new.marks.items i no_mark).left ≤ (slice_index_or old.marks.items j no_mark).left)

-- Stack t is what becomes of the stack below when an argument ends with the frame on top. The other stacks stay.
pub record Advances (book : List (List (Rule ℕ))) (old new : frames.Frames) (top below t : ℕ) : Type 0 where
  pub kept : (s : ℕ) → s ≤ length old.marks.items → stack_of new s ≡ stack_of old s
  pub advanced : (f g : Frame) (fs gs : List Frame) → stack_of old top ≡ f ∷ fs → stack_of old below ≡ g ∷ gs → 1 ≤ g.left
      → (h : Frame) × IsAdvanced book (IsComplete f) g h × (stack_of new t ≡ h ∷ gs)

-- The frames and stacks so far stay, and stack t is a further one. Its frame stands where an earlier one stands. It is
-- as high as the one that the frame on top stood on.
pub record AreKept (old new : frames.Frames) (below t : ℕ) : Type 0 where
  pub grown : AreGrown old new
  pub stand : AreBelow old new
  pub kept : (s : ℕ) → s ≤ length old.marks.items → stack_of new s ≡ stack_of old s
  pub more : length old.marks.items + 1 ≡ length new.marks.items
  pub last : t ≡ length new.marks.items
  pub high : length (stack_of new t) ≡ length (stack_of old below)

-- Stack t is what a stack becomes when arguments end. The frames and stacks so far stay, and further frames stand where
-- earlier ones stand.
pub record Settled (rules : rules.Rules) (old new : frames.Frames) (top t : ℕ) : Type 0 where
  pub frames : AreFrames new
  pub grown : AreGrown old new
  pub stand : AreBelow old new
  pub rises : top ≤ t
  pub some : 1 ≤ t
  pub within : t ≤ length new.marks.items
  pub more : length old.marks.items ≤ length new.marks.items
  pub kept : (s : ℕ) → s ≤ length old.marks.items → stack_of new s ≡ stack_of old s
  pub settles : (book : List (List (Rule ℕ))) → AreRules book rules → (f : Frame) (fs : List Frame) → stack_of old top ≡ f ∷ fs → AreAsking fs
      → Settles book f fs (stack_of new t)

-- the same on the way: what is settled from stack `now` on is settled from the first one on
pub record Settling (rules : rules.Rules) (old new : frames.Frames) (top now : ℕ) : Type 0 where
  pub frames : AreFrames new
  pub grown : AreGrown old new
  pub stand : AreBelow old new
  pub rises : top ≤ now
  pub some : 1 ≤ now
  pub within : now ≤ length new.marks.items
  pub more : length old.marks.items ≤ length new.marks.items
  pub kept : (s : ℕ) → s ≤ length old.marks.items → stack_of new s ≡ stack_of old s
  pub settles : (book : List (List (Rule ℕ))) → AreRules book rules → (f : Frame) (fs : List Frame) → stack_of old top ≡ f ∷ fs → AreAsking fs
      → (h : Frame) × (hs : List Frame) × (stack_of new now ≡ h ∷ hs) × AreAsking hs
      × ((frames : List Frame) → Settles book h hs frames → Settles book f fs frames)
