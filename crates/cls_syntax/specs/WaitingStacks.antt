-- internal: what the stack of a builder stands for, and what its steps make of it
use Rattle.std.specs.Prelude.{ℕ, ◌≡◌, ◌<◌, ◌≤◌, Bool, true, false, List, [], ◌∷◌, ◌++◌, Option, Some, None}
use Rattle.std.specs.Option.{option_map}
use Rattle.cls_base.specs.Schemas as schema
use Rattle.cls_base.specs.Schemas.{OpenType}
use Rattle.cls_syntax.specs.Numberings.{Outcome}
use Rattle.cls_syntax.specs.SchemaReading.{Outer, whole, within, Level, level, empty_level, State, operand, atom_read, with_left, with_sources, applied}
use Rattle.cls_syntax.specs.declared.schema_builder.Behind.{Behind}
use Rattle.cls_syntax.specs.declared.schema_builder.Behind.TheVariants as behind
use Rattle.cls_syntax.specs.declared.waiting_stack.Waiting.{Waiting}
use Rattle.cls_syntax.specs.declared.waiting_stack.Waiting.TheVariants as waiting

-- A level after an atom and an operator.
abbrev pub with_times : Level → OpenType → Level
with_times (level ss m p) t = level ss m (Some (with_left schema.product p t))

abbrev pub with_and : Level → OpenType → Level
with_and (level ss m p) t = level ss (Some (with_left schema.meet m (with_left schema.product p t))) None

abbrev pub with_to : Level → OpenType → Level
with_to (level ss m p) t = level (ss ++ with_left schema.meet m (with_left schema.product p t) ∷ []) None None

-- All of a level that ends with an atom.
abbrev pub all_of : Level → OpenType → OpenType
all_of (level ss m p) t = with_sources ss (with_left schema.meet m (with_left schema.product p t))

-- An operator stands behind the first place, and before the end.
abbrev pub IsWithin : {T : Type 0} → Behind T → (from end : ℕ) → Type 0
IsWithin (behind.Whole t) from end = Unit {0}
IsWithin (behind.Operator p) from end = (from < p) × (p ≤ end)
IsWithin behind.Nothing from end = Unit {0}

module _ {T : Type 0} where
  -- The entries from the last to the first, and then those before.
  abbrev pub last_first : (before ws : List (Waiting T)) → List (Waiting T)
  last_first before [] = before
  last_first before (w ∷ ws) = last_first (w ∷ before) ws

  abbrev pub is_product : Option (Waiting T) → Bool
  is_product (Some (waiting.Product s)) = true
  is_product _ = false

  abbrev pub is_meet : Option (Waiting T) → Bool
  is_meet (Some (waiting.Meet s)) = true
  is_meet _ = false

-- the code's values, where `tree` says what the builder's trees are
module _ {T : Type 0} (tree : T → OpenType) where
  -- What waits, the innermost first, is what was read outside of the innermost parenthesis and within it.
  abbrev pub Holds : List (Waiting T) → Outer → Level → Type 0
  Holds [] o l = (o ≡ whole) × (l ≡ empty_level)
  Holds (waiting.Open c ∷ ws) o l = (k : Outer) × ((j : Level) × ((o ≡ within k (option_map (λ c. c.0) c) j) × ((l ≡ empty_level) × Holds ws k j)))
  Holds (waiting.Source s ∷ ws) o l = (ss : List OpenType) × ((l ≡ level (ss ++ tree s ∷ []) None None) × Holds ws o (level ss None None))
  Holds (waiting.Meet s ∷ ws) o l = (ss : List OpenType) × ((l ≡ level ss (Some (tree s)) None) × Holds ws o (level ss None None))
  Holds (waiting.Product s ∷ ws) o l = (ss : List OpenType) × ((m : Option OpenType) × ((l ≡ level ss m (Some (tree s))) × Holds ws o (level ss m None)))

  -- The same for a stack, whose last entry is the innermost.
  abbrev pub Stands : List (Waiting T) → Outer → Level → Type 0
  Stands ws o l = Holds (last_first [] ws) o l

  -- What is read from where the stack stands on is all that is to be read.
  pub record Reads (ws : List (Waiting T)) (reads : Outer → Level → Outcome) (all : Outcome) : Type 0 where
    pub outer : Outer
    pub level : Level
    pub stands : Stands ws outer level
    pub is : reads outer level ≡ all

  -- An atom was read up to a place, if one comes.
  abbrev pub IsAtom : List (Waiting T) → (State → ℕ → Outcome) → Option (T × ℕ) → Outcome → Type 0
  IsAtom ws reads None all = None ≡ all.schema
  IsAtom ws reads (Some a) all = Reads ws (λ o l. reads (atom_read o l (tree a.0)) a.1) all

  -- The same for a variable, which leaves the stack as it is.
  abbrev pub IsVariable : (State → ℕ → Outcome) → Option (T × ℕ) → Outer → Level → Outcome → Type 0
  IsVariable reads None o l all = None ≡ all.schema
  IsVariable reads (Some a) o l all = reads (atom_read o l (tree a.0)) a.1 ≡ all

  -- What came behind an atom. The tables are as they were.
  abbrev pub IsBehind : List (Waiting T) → (State → ℕ → Outcome) → (constructors variables : List (List ℕ)) → Behind T → Outcome → Type 0
  IsBehind ws reads cs vs (behind.Whole t) all = record { schema = Some (tree t); constructors = cs; variables = vs } ≡ all
  IsBehind ws reads cs vs (behind.Operator p) all = Reads ws (λ o l. reads (operand o l) p) all
  IsBehind ws reads cs vs behind.Nothing all = None ≡ all.schema

  -- A parenthesis was closed, and what it makes with the name before it. There is none where none was open.
  pub record Closes (ws : List (Waiting T)) (o : Outer) (inner made : OpenType) : Type 0 where
    pub outer : Outer
    pub name : Option ℕ
    pub level : Level
    pub stands : Stands ws outer level
    pub opened : o ≡ within outer name level
    pub is : made ≡ applied name inner

  abbrev pub IsClosed : List (Waiting T) → Option T → Outer → OpenType → Type 0
  IsClosed ws None o inner = o ≡ whole
  IsClosed ws (Some t) o inner = Closes ws o inner (tree t)

  -- The product that ends with an atom is taken from the stack.
  abbrev pub IsFactor : List (Waiting T) → Outer → Level → (atom factor : OpenType) → Type 0
  IsFactor ws o (level ss m p) t made = (made ≡ with_left schema.product p t) × Stands ws o (level ss m None)

  -- The intersection that ends with an atom is taken from the stack.
  abbrev pub IsSummand : List (Waiting T) → Outer → Level → (atom summand : OpenType) → Type 0
  IsSummand ws o (level ss m p) t made = (made ≡ with_left schema.meet m (with_left schema.product p t)) × Stands ws o (level ss None None)
