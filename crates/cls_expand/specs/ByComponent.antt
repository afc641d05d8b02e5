-- The rules of a goal, component by component. A component's rules differ in their arguments alone, so lists of arguments stand
-- for them.
use Rattle.std.specs.Prelude.{ℕ, ◌+◌, ◌==◌, if◌then◌else◌, List, [], ◌∷◌, ◌++◌, map}
use Rattle.cls_base.specs.declared.rule.Rule.{Rule}
use Rattle.cls_base.specs.declared.rule.Rule.TheVariants.{Head, Any}

module _ {G : Type 0} where
  -- the rules of the component, one for each list of arguments
  abbrev pub rules_with : ℕ → List (List G) → List (Rule G)
  rules_with x lists = map (Head x) lists

  -- the arguments of each rule of the component, in order
  abbrev pub arguments_by : ℕ → List (Rule G) → List (List G)
  arguments_by x [] = []
  arguments_by x (Head y args ∷ rs) = if x == y then args ∷ arguments_by x rs else arguments_by x rs
  arguments_by x (Any left right ∷ rs) = arguments_by x rs

  -- the rules of the components from x on, with the lists of arguments of each
  abbrev pub rules_joined : ℕ → List (List (List G)) → List (Rule G)
  rules_joined x [] = []
  rules_joined x (lists ∷ rest) = rules_with x lists ++ rules_joined (x + 1) rest
