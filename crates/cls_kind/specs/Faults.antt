-- What a fault says of a schema and its kinds, and what a call for the next instance gives.
use Rattle.std.specs.Prelude.{ℕ, ◌≡◌, ◌<◌, List, [], ◌∷◌, ◌++◌, All, Option, None, Some, Result, Ok, Err}
use Rattle.cls_base.specs.Limits.{max_instances}
use Rattle.cls_base.specs.declared.ty.Ty.{Ty}
use Rattle.cls_base.specs.Ty.{type_of}
use Rattle.cls_base.specs.Types.{ClosedType}
use Rattle.cls_base.specs.Schemas.{OpenType}
use Rattle.cls_kind.specs.declared.fault.KindFault.{KindFault}
use Rattle.cls_kind.specs.declared.fault.KindFault.TheVariants.{UnknownVariable, TooManyInstances, InstanceTooLarge, OutOfMemory}
use Rattle.cls_kind.specs.Instances.{variables_of, count_of, IsSmall}
use Rattle.cls_kind.specs.Kinds.{kind_of, ranges_of, AreKnown}
use Rattle.cls_kind.specs.Pruned.{pruned}

-- the variable is the first one of the schema without a kind
abbrev pub IsFirstUnknown : List (ℕ × List ClosedType) → OpenType → ℕ → Type 0
IsFirstUnknown kinds s v =
    (before after : List ℕ) × (variables_of s ≡ before ++ v ∷ after)
    × All (λ w. kind_of kinds w ≡ [] → ⊥) before × (kind_of kinds v ≡ [])

-- the fault says which variable has no kind; out of memory says nothing
abbrev pub LacksKind : List (ℕ × List ClosedType) → OpenType → KindFault → Type 0
LacksKind kinds s (UnknownVariable v) = IsFirstUnknown kinds s v.0
LacksKind kinds s TooManyInstances = ⊥
LacksKind kinds s InstanceTooLarge = ⊥
LacksKind kinds s OutOfMemory = Unit {0}

-- the fault says why the schema has no instances to go over; out of memory says nothing
abbrev pub HasNoInstances : List (ℕ × List ClosedType) → OpenType → KindFault → Type 0
HasNoInstances kinds s (UnknownVariable v) = IsFirstUnknown kinds s v.0
HasNoInstances kinds s TooManyInstances = AreKnown kinds s × (max_instances < count_of (ranges_of kinds s))
HasNoInstances kinds s InstanceTooLarge = ⊥
HasNoInstances kinds s OutOfMemory = Unit {0}

-- what comes for an instance: the pruned instance, unless the instance is too large
abbrev pub IsAnswerFor : ClosedType → Result Ty KindFault → Type 0
IsAnswerFor t (Ok ty) = (type_of ty ≡ pruned t) × IsSmall t
IsAnswerFor t (Err (UnknownVariable v)) = ⊥
IsAnswerFor t (Err TooManyInstances) = ⊥
IsAnswerFor t (Err InstanceTooLarge) = IsSmall t → ⊥
IsAnswerFor t (Err OutOfMemory) = Unit {0}

-- the instances that are left after such an answer, none after a fault
abbrev pub left_after : List ClosedType → Result Ty KindFault → List ClosedType
left_after rest (Ok ty) = rest
left_after rest (Err fault) = []

-- Of the instances that are left the first one comes. Nothing comes if and only if none is left.
abbrev pub TakesFirst : List ClosedType → Option (Result Ty KindFault) → List ClosedType → Type 0
TakesFirst left None left' = (left ≡ []) × (left' ≡ [])
TakesFirst left (Some answer) left' =
    (t : ClosedType) × (rest : List ClosedType) × (left ≡ t ∷ rest)
    × IsAnswerFor t answer × (left' ≡ left_after rest answer)
