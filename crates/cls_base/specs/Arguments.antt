-- The goals that rules have for arguments.
use Rattle.std.specs.Prelude.{List, [], ◌∷◌, ◌++◌, map}
use Rattle.cls_base.specs.declared.rule.Rule.{Rule}
use Rattle.cls_base.specs.declared.rule.Rule.TheVariants.{Head, Any}

module _ {G : Type 0} where
  -- the arguments of a rule, in their order
  abbrev pub arguments_of_rule : Rule G → List G
  arguments_of_rule (Head component args) = args
  arguments_of_rule (Any left right) = left ∷ right ∷ []

  -- the arguments of rules, in the order of rules and of arguments within a rule
  abbrev pub arguments_in : List (Rule G) → List G
  arguments_in [] = []
  arguments_in (r ∷ rs) = arguments_of_rule r ++ arguments_in rs

module _ {G H : Type 0} (f : G → H) where
  -- the rule with f of each goal in the goal's place
  abbrev pub map_rule : Rule G → Rule H
  map_rule (Head component args) = Head component (map f args)
  map_rule (Any left right) = Any (f left) (f right)
