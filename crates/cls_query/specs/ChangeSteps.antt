-- internal: the errors of a change by the steps of the code that test for them
use Rattle.std.specs.Prelude.{ℕ, ◌≡◌, true, false, List, [], ◌∷◌}
use Rattle.cls_base.specs.Firsts.{Cause}
use Rattle.cls_query.specs.declared.change.Change.TheVariants.{Add, Remove}
use Rattle.cls_query.specs.Changes.{ChangeText}
use Rattle.cls_query.specs.ChangeErrors.{leaves_changes, large_type, unknown_component, duplicate_component}
use Rattle.cls_query.specs.QueryErrors.{is_absent, too_deep}

abbrev pub spelling_errors : (line : List ℕ) → List (Cause (List ℕ))
spelling_errors line = too_deep line ∷ leaves_changes line ∷ []

abbrev pub naming_errors : (line : List ℕ) → (components : List (List ℕ)) → List (Cause (List ℕ))
naming_errors line components =
    large_type line ∷ unknown_component line components ∷ duplicate_component line components ∷ []

-- There is no component of the name of a new one, and there is one of the name of one that is to be there.
abbrev pub IsNamed : (components : List (List ℕ)) → ChangeText → Type 0
IsNamed components (Add x t) = is_absent components x ≡ true
IsNamed components (Remove x) = is_absent components x ≡ false
