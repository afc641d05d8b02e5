-- internal: sets of positions at places, as keys of a table
use Rattle.std.specs.Prelude.{ℕ, List}
use Rattle.cls_check.specs.declared.known.PlacedSet.{PlacedSet}
use Rattle.cls_check.specs.declared.place.Place.{Place}

-- a component and a number of arguments, and positions of its arrows that take so many
abbrev pub SetKey : Type 0
SetKey = (ℕ × ℕ) × List ℕ

abbrev pub key_of : Place → List ℕ → SetKey
key_of p s = ((p.component, p.n), s)

abbrev pub placed : PlacedSet → SetKey
placed k = key_of k.place k.positions.items
