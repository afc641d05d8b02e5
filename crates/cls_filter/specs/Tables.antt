-- What lines say of things by number. Of each, the first thing said counts.
use Rattle.std.specs.Prelude.{ℕ, suc, ◌+◌, ◌-◌, List, [], ◌∷◌, ◌++◌, Option, Some, None, length, replicate, slice_set, slice_index_or}

-- Where something leads: to a state, or to none. What is said of a thing is nothing yet, or where it leads.
abbrev pub first_said : Option (Option ℕ) → Option ℕ → Option (Option ℕ)
first_said None state = Some state
first_said (Some earlier) state = Some earlier

abbrev pub said_at : List (Option (Option ℕ)) → ℕ → Option (Option ℕ)
said_at said i = slice_index_or said i None

-- the table with room for thing i, of which nothing is said if there was none
abbrev pub with_room : List (Option (Option ℕ)) → ℕ → List (Option (Option ℕ))
with_room said i = said ++ replicate (i + 1 - length said) None

-- thing i leads there, if nothing was said of it before
abbrev pub with_said : List (Option (Option ℕ)) → ℕ → Option ℕ → List (Option (Option ℕ))
with_said said i state = slice_set (with_room said i) i (first_said (said_at said i) state)

-- f of each item and its number, the first of which is i
abbrev pub map_from : {A B : Type 0} → (ℕ → A → B) → ℕ → List A → List B
map_from f i [] = []
map_from f i (x ∷ xs) = f i x ∷ map_from f (suc i) xs
