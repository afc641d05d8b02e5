-- Lists that stand one after another in one column, with the places where they end.
use Rattle.std.specs.Prelude.{ℕ, ◌≡◌, ◌-◌, ◌≤◌, List, [], ◌∷◌, take, drop}

-- the elements from the start to the first end, from there to the next, and so on
abbrev pub cut : {A : Type 0} → List A → ℕ → List ℕ → List (List A)
cut xs start [] = []
cut xs start (end ∷ ends) = take (end - start) (drop start xs) ∷ cut xs end ends

-- the ends never fall, and the last of them, or the start where there is none, is where the column ends
abbrev pub AreEnds : ℕ → ℕ → List ℕ → Type 0
AreEnds start last [] = start ≡ last
AreEnds start last (end ∷ ends) = (start ≤ end) × AreEnds end last ends
