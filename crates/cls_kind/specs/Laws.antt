-- What holds of all schemas and kinds.
use Rattle.std.specs.Prelude.{ℕ, ◌≡◌, ◌↔◌, List, length, Contains}
use Rattle.cls_base.specs.Types.{ClosedType}
use Rattle.cls_base.specs.Schemas.{OpenType}
use Rattle.cls_kind.specs.Instances.{choices_from, count_of}
use Rattle.cls_kind.specs.Kinds.{instances_of, IsInstance}

-- a type is in the list of all instances if and only if it is an instance by the definition
abbrev pub InstancesAreExact : Type 0
InstancesAreExact =
    (kinds : List (ℕ × List ClosedType)) (s : OpenType) (t : ClosedType)
    → Contains (instances_of kinds s) t ↔ IsInstance kinds s t

-- the number of choices is the product of the numbers of types
abbrev pub ChoicesAreCounted : Type 0
ChoicesAreCounted = (ranges : List (ℕ × List ClosedType)) → length (choices_from ranges) ≡ count_of ranges
