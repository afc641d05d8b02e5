-- What is asked of a grammar from which a certificate is made.
use Rattle.std.specs.Prelude.{◌≡◌, List, map, None}
use Rattle.std.specs.Ordering.{eq_by_cmp}
use Rattle.cls_path.specs.Paths.{TypePath, Paths, listed}
use Rattle.cls_path.specs.PathOrder.{list_order}
use Rattle.cls_core.specs.Rows.{Row}
use Rattle.cls_core.specs.Canonical.{IsCanonical}
use Rattle.cls_grammar.specs.Grammars.{first_wide}
use Rattle.cls_library.specs.Libraries.{Library}
use Rattle.cls_expand.specs.Answers.{IsAnswer, IsReady}

-- the goals of rows
abbrev pub forms_of : List (Row (List TypePath)) → List Paths
forms_of rows = map (λ r. listed r.goal) rows

-- The rows are the canonical grammar of goal 0, which is normal and fit, by the rules of the library. No goal is wide.
pub record IsGrammarOf (l : Library) (rows : List (Row (List TypePath))) : Type 0 where
  pub start : List TypePath
  pub ready : IsReady l start
  pub canonical : IsCanonical (eq_by_cmp list_order) (IsAnswer l) start rows
  pub narrow : first_wide rows ≡ None
