-- Instances of schemas: a closed type stands in the place of each variable.
use Rattle.std.specs.Prelude.{ℕ, ◌≡◌, ◌*◌, ◌==◌, ◌≤◌, if◌then◌else◌, List, [], ◌∷◌, ◌++◌, length, map, slice_index_or, All}
use Rattle.std.specs.List.{list_any, flat_map}
use Rattle.cls_base.specs.Limits.{max_instance_nodes, max_type_spread}
use Rattle.cls_base.specs.Types as types
use Rattle.cls_base.specs.Types.{ClosedType, nodes, spread}
use Rattle.cls_base.specs.Schemas.{OpenType, omega, constructor, product, arrow, meet, variable}

-- the schema with a type in the place of each variable
abbrev pub instance_of : (ℕ → ClosedType) → OpenType → ClosedType
instance_of f omega = types.omega
instance_of f (constructor c s) = types.constructor c (instance_of f s)
instance_of f (product s t) = types.product (instance_of f s) (instance_of f t)
instance_of f (arrow s t) = types.arrow (instance_of f s) (instance_of f t)
instance_of f (meet s t) = types.meet (instance_of f s) (instance_of f t)
instance_of f (variable v) = f v

-- the list with the variable last, unless it is there
abbrev pub with_variable : List ℕ → ℕ → List ℕ
with_variable vs v = if list_any (λ w. v == w) vs then vs else vs ++ v ∷ []

-- the list, and after it the schema's other variables, each where it first stands
abbrev pub with_variables : List ℕ → OpenType → List ℕ
with_variables vs omega = vs
with_variables vs (constructor c s) = with_variables vs s
with_variables vs (product s t) = with_variables (with_variables vs s) t
with_variables vs (arrow s t) = with_variables (with_variables vs s) t
with_variables vs (meet s t) = with_variables (with_variables vs s) t
with_variables vs (variable v) = with_variable vs v

-- the variables of the schema in the order of their first occurrences
abbrev pub variables_of : OpenType → List ℕ
variables_of s = with_variables [] s

-- the type that is chosen for the variable, omega if none is
abbrev pub type_for : List (ℕ × ClosedType) → ℕ → ClosedType
type_for [] v = types.omega
type_for (c ∷ cs) v = if v == c.0 then c.1 else type_for cs v

-- One type for each variable, chosen from its list, in all ways. The first variable varies slowest.
abbrev pub choices_from : List (ℕ × List ClosedType) → List (List (ℕ × ClosedType))
choices_from [] = [] ∷ []
choices_from (r ∷ rs) = flat_map (λ t. map (λ c. (r.0, t) ∷ c) (choices_from rs)) r.1

-- no list is empty
abbrev pub AreFull : List (ℕ × List ClosedType) → Type 0
AreFull ranges = All (λ r. r.1 ≡ [] → ⊥) ranges

-- the number of the choices
abbrev pub count_of : List (ℕ × List ClosedType) → ℕ
count_of [] = 1
count_of (r ∷ rs) = length r.1 * count_of rs

-- the choice with this number
abbrev pub choice_at : List (ℕ × List ClosedType) → ℕ → List (ℕ × ClosedType)
choice_at ranges n = slice_index_or (choices_from ranges) n []

-- the instance that a choice makes
abbrev pub instance_by : List (ℕ × ClosedType) → OpenType → ClosedType
instance_by choice s = instance_of (type_for choice) s

-- the instance of each choice
abbrev pub instances_from : List (ℕ × List ClosedType) → OpenType → List ClosedType
instances_from ranges s = map (λ c. instance_by c s) (choices_from ranges)

-- an instance that isn't too large
pub record IsSmall (t : ClosedType) : Type 0 where
  pub few_nodes : nodes t ≤ max_instance_nodes
  pub low_spread : spread t ≤ max_type_spread
