-- internal: texts that stand one after another in one column of bytes, with the place of each
use Rattle.std.specs.Prelude.{⊤, ℕ, ◌≤◌, List, [], ◌∷◌, map}
use Rattle.std.specs.List.{slice_range}
use Rattle.std.specs.Str.{IsCharBoundary}
use Rattle.cls_lexer.specs.declared.texts.Place.{Place}

-- The text at the place.
abbrev pub text_at : List ℕ → Place → List ℕ
text_at bytes place = slice_range bytes place.start place.end

abbrev pub texts_at : List ℕ → List Place → List (List ℕ)
texts_at bytes places = map (text_at bytes) places

-- Characters begin and end where the text does.
abbrev pub IsPlace : List ℕ → Place → Type 0
IsPlace bytes place = (place.start ≤ place.end) × IsCharBoundary bytes place.start × IsCharBoundary bytes place.end

-- Each text begins behind the start and behind the texts before it.
abbrev pub ArePlaces : List ℕ → ℕ → List Place → Type 0
ArePlaces bytes start [] = ⊤
ArePlaces bytes start (place ∷ places) = (start ≤ place.start) × IsPlace bytes place × ArePlaces bytes place.end places
