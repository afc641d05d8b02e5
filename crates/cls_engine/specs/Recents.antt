-- internal: the grammars that an engine keeps.
use Rattle.std.specs.Prelude.{ℕ, ◌≡◌, List, Some, Contains, slice_get, option_map}
use Rattle.cls_core.specs.Rows.{Row}
use Rattle.cls_library.specs.Libraries.{Library}
use Rattle.cls_engine.specs.declared.options.Options.{Options}
use Rattle.cls_engine.specs.declared.recents.Kept.{Kept}
use Rattle.cls_engine.specs.Goals.{Goal}
use Rattle.cls_engine.specs.Closing.{IsKnown}

-- the first goal of the rows
abbrev pub HasFirstGoal : List (Row Goal) → Goal → Type 0
HasFirstGoal rows goal = option_map (λ (r : Row Goal). r.goal) (slice_get rows 0) ≡ Some goal

-- the grammar at the place has this first goal
abbrev pub IsOneOf : List Kept → ℕ → Goal → Type 0
IsOneOf kept place goal = (k : Kept) × (slice_get kept place ≡ Some k) × HasFirstGoal k.grammar goal

module _ (lib : Library) (o : Options) where
  -- each grammar is that of a goal, within the options
  abbrev pub AreKnown : List Kept → Type 0
  AreKnown kept = (k : Kept) → Contains kept k → (start : Goal) × IsKnown lib o start k.grammar
