-- internal: parts of a column, one after another, each of a value that keeps where its part begins
use Rattle.std.specs.Prelude.{ℕ, ◌≤◌, List, [], ◌∷◌, length, take, drop}

-- a value that is itself the place where its part begins
abbrev pub itself : ℕ → ℕ
itself start = start

module _ {H : Type 0} (start : H → ℕ) where
  -- where the part before these ends: where the first of them begins, or at the end of the column
  abbrev pub next_start : List H → ℕ → ℕ
  next_start [] total = total
  next_start (h ∷ hs) total = start h

  -- the parts begin one after another, within so many elements
  abbrev pub AreStarts : List H → ℕ → Type 0
  AreStarts [] total = Unit {0}
  AreStarts (h ∷ hs) total = (start h ≤ next_start hs total) × AreStarts hs total

  -- what is made of each value and its part
  module _ {A B : Type 0} (make : H → List A → B) where
    abbrev pub parts : List H → List A → List B
    parts [] xs = []
    parts (h ∷ hs) xs = make h (drop (start h) (take (next_start hs (length xs)) xs)) ∷ parts hs xs

-- where each list begins, and the elements of the lists
abbrev pub lists_of : {A : Type 0} → List ℕ → List A → List (List A)
lists_of starts xs = parts itself (λ start part. part) starts xs
