-- internal: which openings head rules offer by an aim, and that they are gathered
use Rattle.std.specs.Prelude.{ℕ, ◌+◌, ◌<◌, ◌≤◌, List, length, map, slice_index_or}
use Rattle.cls_enum.specs.Members.{IsIn}
use Rattle.cls_walk.specs.Counts.{HeadRule}
use Rattle.cls_walk.specs.FrameBegins.{heads_in, no_head}
use Rattle.cls_walk.specs.FrameColumns.{head_of}
use Rattle.cls_walk.specs.Openings.{IsGathered}
use Rattle.cls_walk.specs.declared.opening.Opening.{Opening}
use Rattle.cls_walk.specs.declared.rules.Head as head
use Rattle.cls_walk.specs.declared.rules.Rules as rules

module _ (own : HeadRule → ℕ) (size spare : ℕ) where
  -- With so much behind it and so many pairs, the head rule comes to no more than the size, and its opening has no more
  -- arguments than there are to spare.
  pub record IsFitting (behind pairs : ℕ) (h : HeadRule) : Type 0 where
    pub small : own h + behind ≤ size
    pub few : length h.1 + pairs ≤ spare

  -- the openings of those of these head rules are among the openings from `first` on
  abbrev pub AreGatheredBy : ℕ → ℕ → ℕ → List HeadRule → List Opening → Type 0
  AreGatheredBy first behind pairs heads offers =
      (h : HeadRule) → IsIn heads h → IsFitting behind pairs h → IsGathered first offers h.0 (length h.1 + pairs)

  -- those of the head rules before this place
  abbrev pub AreGatheredTo : ℕ → ℕ → ℕ → List head.Head → ℕ → List Opening → Type 0
  AreGatheredTo first behind pairs heads place offers =
      (i : ℕ) → i < place
      → let h = head_of (slice_index_or heads i no_head) in
      IsFitting behind pairs h → IsGathered first offers h.0 (length h.1 + pairs)

  -- those of the head rules of the nodes of these aims
  abbrev pub AreGatheredAt : ℕ → rules.Rules → ℕ → List (ℕ × ℕ) → List Opening → Type 0
  AreGatheredAt first r pairs aims offers =
      (a : ℕ × ℕ) → IsIn aims a → AreGatheredBy first a.1 pairs (map head_of (heads_in r a.0)) offers
