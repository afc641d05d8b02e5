-- internal: a schema as it is built: the machine of types with schemas in place of texts
use Rattle.std.specs.Prelude.{ℕ, List, [], ◌∷◌, ◌++◌, Option, Some, None}
use Rattle.std.specs.Option.{option_map}
use Rattle.cls_base.specs.Schemas as schema
use Rattle.cls_base.specs.Schemas.{OpenType}
use Rattle.cls_lexer.specs.declared.token.Token.{Token}
use Rattle.cls_syntax.specs.declared.sort.Sort.{Sort}
use Rattle.cls_syntax.specs.declared.sort.Sort.TheVariants.{Omega, Name, To, And, Times, Open, Close, Dollar}
use Rattle.cls_lexer.specs.Words.{word_of}
use Rattle.cls_syntax.specs.Sorts.{sort_of}

-- A constructor over the schema, or the schema alone.
abbrev pub applied : Option ℕ → OpenType → OpenType
applied None t = t
applied (Some c) t = schema.constructor c t

abbrev pub with_left : (OpenType → OpenType → OpenType) → Option OpenType → OpenType → OpenType
with_left f None t = t
with_left f (Some s) t = f s t

-- The sources stand in the order in which they were read.
abbrev pub with_sources : List OpenType → OpenType → OpenType
with_sources [] t = t
with_sources (s ∷ ss) t = schema.arrow s (with_sources ss t)

pub data Level : Type 0 where
  level : List OpenType → Option OpenType → Option OpenType → Level

abbrev pub empty_level : Level
empty_level = level [] None None

abbrev pub closed : Level → OpenType → OpenType
closed (level ss m p) t = with_sources ss (with_left schema.meet m t)

-- The innermost parenthesis first.
pub data Outer : Type 0 where
  whole : Outer
  within : Outer → Option ℕ → Level → Outer

pub data State : Type 0 where
  operand : Outer → Level → State
  after_dollar : Outer → Level → State
  after_name : Outer → Level → ℕ → State
  after : Outer → Level → OpenType → State

-- an atom was read
abbrev pub atom_read : Outer → Level → OpenType → State
atom_read o (level ss m p) t = after o (level ss m None) (with_left schema.product p t)

abbrev pub step_after : Outer → Level → OpenType → Sort → Option State
step_after o (level ss m p) t Times = Some (operand o (level ss m (Some t)))
step_after o (level ss m p) t And = Some (operand o (level ss (Some (with_left schema.meet m t)) p))
step_after o (level ss m p) t To = Some (operand o (level (ss ++ with_left schema.meet m t ∷ []) None p))
step_after whole l t Close = None
step_after (within o c k) l t Close = Some (atom_read o k (applied c (closed l t)))
step_after o l t _ = None

abbrev pub step_name : Outer → Level → ℕ → Sort → Option State
step_name o l c Open = Some (operand (within o (Some c) l) empty_level)
step_name o (level ss m p) c sort = step_after o (level ss m None) (with_left schema.product p (schema.constructor c schema.omega)) sort

-- The schema that was read, where it may end here.
abbrev pub ended : State → Option OpenType
ended (after whole l t) = Some (closed l t)
ended (after_name whole (level ss m p) c) = Some (closed (level ss m None) (with_left schema.product p (schema.constructor c schema.omega)))
ended _ = None

-- The numbers that constructors have, and what variables are, where there may be any.
module _ (constructor : List ℕ → ℕ) (variable : List ℕ → Option OpenType) where
  -- a token of this sort and text
  abbrev pub step : State → Sort → List ℕ → Option State
  step (operand o l) Omega text = Some (atom_read o l schema.omega)
  step (operand o l) Name text = Some (after_name o l (constructor text))
  step (operand o l) Dollar text = Some (after_dollar o l)
  step (operand o l) Open text = Some (operand (within o None l) empty_level)
  step (operand o l) _ text = None
  step (after_dollar o l) Name text = option_map (atom_read o l) (variable text)
  step (after_dollar o l) _ text = None
  step (after_name o l c) sort text = step_name o l c sort
  step (after o l t) sort text = step_after o l t sort

  abbrev pub schema_reading : State → List Token → Option OpenType
  schema_reading s [] = ended s
  schema_reading s (l ∷ ls) = elim (step s (sort_of (word_of l)) l.text.now) [ None ↦ None | Some t ↦ schema_reading t ls ]
