use Rattle.std.proofs.Common.{◌↔◌, List}
use Rattle.cls_path.specs.Paths.{TypePath, type_of_paths}
use Rattle.cls_core.specs.Rows.{Row}
use Rattle.cls_grammar.specs.Grammars.{book_of}
use Rattle.cls_grammar.specs.Ranks.{IsProductiveIn}
use Rattle.cls_library.specs.Libraries.{Library, IsLibrary}
use Rattle.cls_proof.specs.Certificates.{Certificate, inhabited, empty}
use Rattle.cls_check.specs.Checking.{Accepts}
use Rattle.cls_cert.specs.Conditions.{forms_of, IsGrammarOf}
use Rattle.cls_cert.specs.Making.{goal_in, IsMadeFor}
use Rattle.cls_cert.specs.Laws.{IsEmpty}
use Rattle.cls_cert.proofs.Empty.{members_accepted}
use Rattle.cls_cert.proofs.Inhabited.{rows_accepted}
use Rattle.cls_cert.proofs.laws.made_are_accepted.Goals as goal

accepted : (l : Library) → IsLibrary l → (rows : List (Row (List TypePath))) → IsGrammarOf l rows → (c : Certificate) → IsMadeFor l rows c → Accepts l (type_of_paths (goal_in (forms_of rows) 0)) c
accepted l is rows h (inhabited new) m = rows_accepted l is rows h new m.1
accepted l is rows h (empty members) m = members_accepted l is rows h members m.1 m.0

decided : (l : Library) (rows : List (Row (List TypePath))) (c : Certificate) → IsMadeFor l rows c → IsEmpty c ↔ (IsProductiveIn (book_of rows) 0 → ⊥)
decided l rows (inhabited new) m = ((λ e. absurd e), (λ f. f m.0))
decided l rows (empty members) m = ((λ e. m.0), (λ f. tt))

pub returns : goal.returns
returns c = record { accepted = accepted; decided = decided }
