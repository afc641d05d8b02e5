-- internal: where the texts of arguments stand in the text that is made
use Rattle.std.specs.Prelude.{ℕ, ◌≡◌, ◌-◌, ◌≤◌, List, [], Option, Some, None, length, take, drop, slice_index_or, IsUtf8}
use Rattle.cls_assemble.specs.declared.text.Span.{Span}

-- The bytes between the places are the text, and no character is split at either.
pub record IsWrittenAt (text : List ℕ) (span : Span) (bytes : List ℕ) : Type 0 where
  pub order : span.start ≤ span.end
  pub within : span.end ≤ length bytes
  pub same : take (span.end - span.start) (drop span.start bytes) ≡ text
  pub start_cut : IsUtf8 (take span.start bytes)
  pub end_cut : IsUtf8 (take span.end bytes)

-- Each argument that has a place stands there.
pub record AreWritten (texts : List (List ℕ)) (spans : List (Option Span)) (bytes : List ℕ) : Type 0 where
  pub each : (k : ℕ) (span : Span) → slice_index_or spans k None ≡ Some span → IsWrittenAt (slice_index_or texts k []) span bytes
