-- internal: the errors by the steps of the code that test for them
use Rattle.std.specs.Prelude.{ℕ, List, [], ◌∷◌, Result, Ok, Err, IfSome}
use Rattle.cls_base.specs.Firsts.{Cause, First, IsSilent}
use Rattle.cls_query.specs.declared.fault.LineFault.{LineFault}
use Rattle.cls_query.specs.QueryErrors.{too_long, not_utf8, too_deep, leaves_table, too_many_nodes, has_variable, out_of_range, unknown_name, unknown_in_term}
use Rattle.cls_query.specs.ReadQueries.{fault_words}

abbrev pub text_errors : (line : List ℕ) → List (Cause (List ℕ))
text_errors line = too_long line ∷ not_utf8 line ∷ []

abbrev pub spelling_errors : (line : List ℕ) → List (Cause (List ℕ))
spelling_errors line = too_deep line ∷ leaves_table line ∷ []

abbrev pub type_errors : (line : List ℕ) → List (Cause (List ℕ))
type_errors line = too_many_nodes line ∷ has_variable line ∷ []

abbrev pub value_errors : (line : List ℕ) → (components filters : List (List ℕ)) → List (Cause (List ℕ))
value_errors line components filters =
    out_of_range line ∷ unknown_name line components filters ∷ unknown_in_term line components ∷ []

-- None of the causes applies, or the fault is the first that does. Out of memory says nothing.
abbrev pub Tests : {A : Type 0} → List (Cause (List ℕ)) → Result A LineFault → Type 0
Tests causes (Ok a) = IsSilent (First causes)
Tests causes (Err fault) = IfSome (fault_words fault) (λ words. First causes words)
