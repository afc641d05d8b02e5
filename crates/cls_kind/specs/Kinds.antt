-- Kinds of variables: for each variable a list of closed types, which isn't empty.
use Rattle.std.specs.Prelude.{ℕ, ◌≡◌, ◌==◌, ◌≤◌, if◌then◌else◌, List, [], ◌∷◌, map, All, Contains}
use Rattle.cls_base.specs.Limits.{max_instances}
use Rattle.cls_base.specs.Types.{ClosedType}
use Rattle.cls_base.specs.Schemas.{OpenType}
use Rattle.cls_kind.specs.Instances.{instance_of, variables_of, count_of, instances_from}

-- the kind of the variable, the empty list if it has none
abbrev pub kind_of : List (ℕ × List ClosedType) → ℕ → List ClosedType
kind_of [] v = []
kind_of (k ∷ ks) v = if v == k.0 then k.1 else kind_of ks v

-- the variables of the schema, each with its kind
abbrev pub ranges_of : List (ℕ × List ClosedType) → OpenType → List (ℕ × List ClosedType)
ranges_of kinds s = map (λ v. (v, kind_of kinds v)) (variables_of s)

-- all instances of the schema in order
abbrev pub instances_of : List (ℕ × List ClosedType) → OpenType → List ClosedType
instances_of kinds s = instances_from (ranges_of kinds s) s

-- each variable of the schema has a kind
abbrev pub AreKnown : List (ℕ × List ClosedType) → OpenType → Type 0
AreKnown kinds s = All (λ v. kind_of kinds v ≡ [] → ⊥) (variables_of s)

-- each variable of the schema has a kind, and the choices are within the limit
pub record HasInstances (kinds : List (ℕ × List ClosedType)) (s : OpenType) : Type 0 where
  pub known : AreKnown kinds s
  pub few_choices : count_of (ranges_of kinds s) ≤ max_instances

-- an instance by the definition: for each variable of the schema a type of its kind
abbrev pub IsInstance : List (ℕ × List ClosedType) → OpenType → ClosedType → Type 0
IsInstance kinds s t =
    (f : ℕ → ClosedType) × ((v : ℕ) → Contains (variables_of s) v → Contains (kind_of kinds v) (f v))
    × (t ≡ instance_of f s)
