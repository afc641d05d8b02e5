-- A table of texts. The place of a text is its number.
use Rattle.std.specs.Prelude.{ℕ, ◌<◌, ◌^◌, List, [], ◌∷◌, ◌++◌, length, if◌then◌else◌}
use Rattle.std.specs.List.{list_any, position_or_len, IsDistinct}
use Rattle.std.specs.Str.{bytes_eq}

-- No text stands twice, and each place fits a number of 32 bits.
pub record IsTable (texts : List (List ℕ)) : Type 0 where
  pub few : length texts < 2 ^ 32
  pub distinct : IsDistinct bytes_eq texts

-- The place of the text, or the number of texts if it isn't held.
abbrev pub number_of : List (List ℕ) → List ℕ → ℕ
number_of texts text = position_or_len (bytes_eq text) texts

-- The table after the text came: one that is held changes nothing, a new one goes last.
abbrev pub with_text : List (List ℕ) → List ℕ → List (List ℕ)
with_text texts text = if list_any (bytes_eq text) texts then texts else texts ++ text ∷ []

-- The table after the texts came, one after another.
abbrev pub with_texts : List (List ℕ) → List (List ℕ) → List (List ℕ)
with_texts texts [] = texts
with_texts texts (x ∷ xs) = with_texts (with_text texts x) xs
