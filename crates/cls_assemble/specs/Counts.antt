-- internal: what the segments of a template add up to
use Rattle.std.specs.Prelude.{ℕ, zero, suc, ◌≡◌, ◌+◌, ◌*◌, ◌<◌, ◌==◌, List, [], ◌∷◌, length, string_bytes, slice_index_or, if◌then◌else◌}
use Rattle.cls_base.specs.Limits.{max_hole}
use Rattle.cls_assemble.specs.declared.counts.Counts.{Counts}
use Rattle.cls_assemble.specs.declared.template.Segment.{Segment}
use Rattle.cls_assemble.specs.Lengths.{capped_length}
use Rattle.cls_assemble.specs.Segments.{pieces_in}
use Rattle.cls_assemble.specs.Texts.{greatest_hole}

-- the bytes in front of the holes
abbrev pub bytes_in : List Segment → ℕ
bytes_in [] = 0
bytes_in (s ∷ ss) = length (string_bytes s.text) + bytes_in ss

-- how often the hole with this number stands among the segments
abbrev pub holes_in : ℕ → List Segment → ℕ
holes_in n [] = 0
holes_in n (s ∷ ss) = (if s.number == n then 1 else 0) + holes_in n ss

-- The counts are those of the segments. Hole 1 is counted at place 0.
pub record AreCounted (counts : Counts) (segments : List Segment) : Type 0 where
  pub size : length counts.holes ≡ max_hole
  pub bytes : counts.bytes ≡ capped_length (bytes_in segments)
  pub holes : (k : ℕ) → k < max_hole → slice_index_or counts.holes k 0 ≡ capped_length (holes_in (k + 1) segments)
  pub greatest : counts.greatest ≡ greatest_hole (pieces_in segments [])

-- the sum of the first products, so many
abbrev pub products : List ℕ → List ℕ → ℕ → ℕ
products xs ys zero = 0
products xs ys (suc k) = products xs ys k + slice_index_or xs k 0 * slice_index_or ys k 0
