-- What holds of all certificates that are made.
use Rattle.std.specs.Prelude.{◌≡◌, ◌↔◌, List}
use Rattle.cls_path.specs.Paths.{TypePath, type_of_paths}
use Rattle.cls_core.specs.Rows.{Row}
use Rattle.cls_grammar.specs.Grammars.{book_of}
use Rattle.cls_grammar.specs.Ranks.{IsProductiveIn}
use Rattle.cls_library.specs.Libraries.{Library, IsLibrary}
use Rattle.cls_proof.specs.Certificates.{Certificate, inhabited, empty}
use Rattle.cls_check.specs.Checking.{Accepts}
use Rattle.cls_cert.specs.Conditions.{forms_of, IsGrammarOf}
use Rattle.cls_cert.specs.Making.{goal_in, IsMadeFor}

abbrev pub IsEmpty : Certificate → Type 0
IsEmpty (inhabited rows) = ⊥
IsEmpty (empty members) = Unit {0}

-- What is made is accepted for goal 0, and has members if and only if goal 0 is unproductive.
pub record MadeAreAccepted : Type 0 where
  pub accepted :
      (l : Library) → IsLibrary l → (rows : List (Row (List TypePath))) → IsGrammarOf l rows → (c : Certificate)
      → IsMadeFor l rows c → Accepts l (type_of_paths (goal_in (forms_of rows) 0)) c
  pub decided :
      (l : Library) (rows : List (Row (List TypePath))) (c : Certificate) → IsMadeFor l rows c
      → IsEmpty c ↔ (IsProductiveIn (book_of rows) 0 → ⊥)

-- For one grammar one certificate is made.
abbrev pub MadeAreOne : Type 0
MadeAreOne =
    (l : Library) (rows : List (Row (List TypePath))) → IsGrammarOf l rows → (c d : Certificate)
    → IsMadeFor l rows c → IsMadeFor l rows d → c ≡ d
