-- The errors that the line of a change and the names of components decide, in the order in which they are tested.
use Rattle.std.specs.Prelude.{ℕ, ◌≡◌, ◌<◌, Bool, true, false, List, [], ◌∷◌, ◌++◌, codes}
use Rattle.cls_base.specs.Firsts.{Cause}
use Rattle.cls_base.specs.Limits.{max_type_nodes}
use Rattle.cls_lexer.specs.Words.{words_of}
use Rattle.cls_syntax.specs.LineGrammars.{row_words, RowStands}
use Rattle.cls_syntax.specs.SyntaxFaults.{LeavesAt}
use Rattle.cls_syntax.specs.TypeTexts.{TypeText, type_nodes}
use Rattle.cls_query.specs.declared.change.Change.TheVariants.{Add, Remove}
use Rattle.cls_query.specs.Changes.{ChangeText, change_rows, WordsSay}
use Rattle.cls_query.specs.QueryErrors.{is_absent, place_words, too_long, not_utf8, too_deep}

-- The type of the line has too many nodes.
abbrev pub HasLargeType : ChangeText → Type 0
HasLargeType (Add x t) = max_type_nodes < type_nodes t
HasLargeType (Remove x) = ⊥

module _ (line : List ℕ) where
  -- The line is a change, of which this holds.
  abbrev pub IsChange : (ChangeText → Type 0) → Type 0
  IsChange P = (said : ChangeText) × WordsSay said (words_of line) × P said

  abbrev pub leaves_changes : Cause (List ℕ)
  leaves_changes t =
      (byte : ℕ) × (reserved : Bool) × LeavesAt (row_words change_rows) (RowStands change_rows) line byte reserved
      × (t ≡ place_words reserved byte)

  abbrev pub large_type : Cause (List ℕ)
  large_type t = IsChange HasLargeType × (t ≡ codes "nodes")

  module _ (components : List (List ℕ)) where
    -- There is no component of the name.
    abbrev pub unknown_component : Cause (List ℕ)
    unknown_component t =
        (x : List ℕ) × WordsSay (Remove x) (words_of line) × (is_absent components x ≡ true)
        × (t ≡ codes "unknown " ++ x)

    -- There is a component of the name of the new one.
    abbrev pub duplicate_component : Cause (List ℕ)
    duplicate_component t =
        (x : List ℕ) × (type : TypeText) × WordsSay (Add x type) (words_of line)
        × (is_absent components x ≡ false) × (t ≡ codes "duplicate " ++ x)

-- The first one of these that applies is the error.
abbrev pub change_errors : (components : List (List ℕ)) → (line : List ℕ) → List (Cause (List ℕ))
change_errors components line =
    too_long line
    ∷ not_utf8 line
    ∷ too_deep line
    ∷ leaves_changes line
    ∷ large_type line
    ∷ unknown_component line components
    ∷ duplicate_component line components
    ∷ []
