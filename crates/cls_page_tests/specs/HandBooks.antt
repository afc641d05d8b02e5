-- internal: rule books that tests make by hand
use Rattle.std.specs.Prelude.{ℕ, nat_lt, Bool, true, ◌&&◌, List, [], ◌∷◌}
use Rattle.cls_base.specs.declared.rule.Rule.{Rule}
use Rattle.cls_base.specs.Arguments.{arguments_in}

-- whether all are nodes below n
abbrev pub are_nodes : ℕ → List ℕ → Bool
are_nodes n [] = true
are_nodes n (i ∷ is) = nat_lt i n && are_nodes n is

-- whether the arguments of the rules of all nodes are nodes below n
abbrev pub all_within : ℕ → List (List (Rule ℕ)) → Bool
all_within n [] = true
all_within n (rs ∷ book) = are_nodes n (arguments_in rs) && all_within n book
