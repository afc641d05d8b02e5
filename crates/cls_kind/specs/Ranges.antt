-- internal: variables with their kinds and with chosen types, as the code has them
use Rattle.std.specs.Prelude.{ℕ, ◌≡◌, ◌+◌, ◌<◌, ◌≤◌, List, [], ◌∷◌, All, map, min, Option, None, Some}
use Rattle.std.specs.Borrow.{Bor}
use Rattle.cls_base.specs.Ty.{type_of}
use Rattle.cls_base.specs.declared.ty.Ty.{Ty}
use Rattle.cls_base.specs.Limits.{max_instances, max_instance_nodes}
use Rattle.cls_base.specs.Schemas.{OpenType}
use Rattle.cls_base.specs.Types.{ClosedType, omega, nodes}
use Rattle.cls_kind.specs.Instances.{choice_at, count_of, instance_by}
use Rattle.cls_kind.specs.declared.ranges.Range.{Range}
use Rattle.cls_kind.specs.declared.instance.Chosen.{Chosen}

abbrev pub range_of : Range → ℕ × List ClosedType
range_of r = (r.variable, map type_of r.choices.now)

abbrev pub chosen_of : Chosen → ℕ × ClosedType
chosen_of c = (c.variable, type_of c.ty.now)

-- the variables with their kinds
abbrev pub kinds_in : List Range → List (ℕ × List ClosedType)
kinds_in ranges = map range_of ranges

-- the variables with the types that are chosen for them
abbrev pub choice_in : List Chosen → List (ℕ × ClosedType)
choice_in chosen = map chosen_of chosen

-- the number of choices, which is within the limit
abbrev pub IsCount : List (ℕ × List ClosedType) → ℕ → Type 0
IsCount ranges n = (n ≡ count_of ranges) × (n ≤ max_instances)

-- the number of nodes, or one more than an instance may have if it is greater
abbrev pub capped_nodes : ClosedType → ℕ
capped_nodes t = min (max_instance_nodes + 1) (nodes t)

-- each variable with its kind has a type with at least as many nodes as each of the kind, as far as they are counted
abbrev pub AreLargest : List (ℕ × List ClosedType) → List (ℕ × ClosedType) → Type 0
AreLargest [] [] = Unit {0}
AreLargest [] (c ∷ cs) = ⊥
AreLargest (r ∷ rs) [] = ⊥
AreLargest (r ∷ rs) (c ∷ cs) =
    (c.0 ≡ r.0) × All (λ t. capped_nodes t ≤ capped_nodes c.1) r.1 × AreLargest rs cs

-- no instance of the schema has too many nodes
abbrev pub HaveFewNodes : List (ℕ × List ClosedType) → OpenType → Type 0
HaveFewNodes ranges s =
    (number : ℕ) → number < count_of ranges → nodes (instance_by (choice_at ranges number) s) ≤ max_instance_nodes

-- the type, omega if there is none
abbrev pub type_or_omega : Option (Bor Ty) → ClosedType
type_or_omega None = omega
type_or_omega (Some ty) = type_of ty.now
