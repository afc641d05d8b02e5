-- Type schemas as finite trees: types that may have variables.
use Rattle.std.specs.Prelude.{ℕ}
use Rattle.cls_base.specs.declared.schema.Schema.{Schema, Omega, Bare, Con', Prod', Arrow', Meet', Var}

-- A variable is its number in the table of variable names.
pub data OpenType : Type 0 where
  omega : OpenType
  constructor : (name : ℕ) → (argument : OpenType) → OpenType
  product : (left right : OpenType) → OpenType
  arrow : (source target : OpenType) → OpenType
  meet : (left right : OpenType) → OpenType
  variable : (number : ℕ) → OpenType

-- the open type that a `Schema` stands for, wherever its parts lie
abbrev pub schema_of : Schema → OpenType
schema_of Omega = omega
schema_of (Bare c) = constructor c.0 omega
schema_of (Con' c p s) = constructor c.0 (schema_of s)
schema_of (Prod' p s t) = product (schema_of s) (schema_of t)
schema_of (Arrow' p s t) = arrow (schema_of s) (schema_of t)
schema_of (Meet' p s t) = meet (schema_of s) (schema_of t)
schema_of (Var v) = variable v.0
