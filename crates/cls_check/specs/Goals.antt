-- internal: goals in a table, each as the paths of its normal form
use Rattle.std.specs.Prelude.{◌↔◌, List, Contains}
use Rattle.std.specs.List.{AllZip}
use Rattle.cls_base.specs.Types.{ClosedType}
use Rattle.cls_path.specs.Paths.{TypePath, type_of_paths, listed, SuitsAll}
use Rattle.cls_library.specs.Libraries.{Library, variances_in}
use Rattle.cls_proof.specs.Certificates.{Member}
use Rattle.cls_check.specs.Checking.{IsSubtype, IsForm}

module _ (l : Library) where
  -- a goal is below the type
  abbrev pub IsAboveGoal : List (List TypePath) → ClosedType → Type 0
  IsAboveGoal goals t = (g : List TypePath) × Contains goals g × IsSubtype l (type_of_paths (listed g)) t

  -- a goal is above the type
  abbrev pub IsBelowGoal : List (List TypePath) → ClosedType → Type 0
  IsBelowGoal goals t = (g : List TypePath) × Contains goals g × IsSubtype l t (type_of_paths (listed g))

  -- the names in each goal have the variance of their form
  abbrev pub AllSuit : List (List TypePath) → Type 0
  AllSuit goals = (g : List TypePath) → Contains goals g → SuitsAll (variances_in l.taxonomy) (listed g)

  -- the normal forms of the members' goals, member by member
  abbrev pub AreForms : List Member → List (List TypePath) → Type 0
  AreForms members forms = AllZip (λ (m : Member) (g : List TypePath). IsForm l m.goal (listed g)) members forms

-- the table has these goals, and no others
abbrev pub AreGoals : List (List TypePath) → List (List TypePath) → Type 0
AreGoals forms goals = (g : List TypePath) → Contains goals g ↔ Contains forms g
