-- The numbers of goals, as they are given one after the other. A goal's number is the place at which it stands.
-- A goal that doesn't stand there yet is put last.
use Rattle.std.specs.Prelude.{ℕ, Bool, List, [], ◌∷◌}
use Rattle.std.specs.List.{position_or_len}
use Rattle.indexmap.specs.IndexSet.{insert_key}

module _ {G : Type 0} (eq : G → G → Bool) where
  abbrev pub numbers_from : List G → List G → List ℕ
  numbers_from gs [] = []
  numbers_from gs (x ∷ xs) = position_or_len (eq x) gs ∷ numbers_from (insert_key eq gs x) xs
