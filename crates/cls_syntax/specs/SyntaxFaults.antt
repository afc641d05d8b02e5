-- When a text is a type, and otherwise why it isn't.
use Rattle.cls_base.specs.Limits.{max_type_nodes, max_type_depth}
use Rattle.std.specs.Prelude.{ℕ, ◌≡◌, ◌<◌, ◌≤◌, ◌&&◌, Bool, true, false, if◌then◌else◌, List, length}
use Rattle.cls_syntax.specs.declared.syntax_fault.SyntaxFault.{SyntaxFault}
use Rattle.cls_syntax.specs.declared.syntax_fault.SyntaxFault.TheVariants.{TooDeep, Unexpected, ReservedName, TooManyNodes, Variable, OutOfMemory}
use Rattle.cls_base.specs.Schemas.{OpenType}
use Rattle.cls_lexer.specs.Names.{number_of}
use Rattle.cls_syntax.specs.TypeSchemas.{type_schema}
use Rattle.cls_lexer.specs.Words.{Word, words_of}
use Rattle.cls_syntax.specs.Sorts.{begins_reserved}
use Rattle.cls_syntax.specs.Faults.{Always, IsFault}
use Rattle.cls_lexer.specs.Tokens.{byte_at}
use Rattle.cls_syntax.specs.Depths.{most_open}
use Rattle.cls_syntax.specs.TypeTexts.{TypeText, type_words, type_nodes}

-- Too many parentheses are open at once.
abbrev pub IsTooDeep : List ℕ → Type 0
IsTooDeep line = max_type_depth < most_open 0 0 (words_of line)

abbrev pub IsFlat : List ℕ → Type 0
IsFlat line = most_open 0 0 (words_of line) ≤ max_type_depth

-- The line leaves the grammar at this byte. `reserved` says that `omega` stands there and each name could that isn't set
-- aside.
pub record LeavesAt {A : Type 0} (words : A → List Word) (Stands : A → Type 0) (line : List ℕ) (byte : ℕ) (reserved : Bool) : Type 0 where
  pub rest : List Word
  pub wants_name : Bool
  pub fault : IsFault words Stands (words_of line) rest wants_name
  pub byte_is : byte ≡ byte_at line (length fault.front)
  pub reserved_is : reserved ≡ (wants_name && begins_reserved rest)

-- The fault at the place.
abbrev pub fault_from : List ℕ → ℕ → (reserved : Bool) → SyntaxFault
fault_from line place reserved = if reserved then ReservedName (byte_at line place) else Unexpected (byte_at line place)

-- The line spells the type and is within the limits.
pub record IsWholeType (line : List ℕ) (t : TypeText) : Type 0 where
  pub flat : IsFlat line
  pub spells : type_words t ≡ words_of line
  pub few : type_nodes t ≤ max_type_nodes

-- Why the line spells no type within the limits. Out of memory says nothing.
abbrev pub IsNoType : List ℕ → SyntaxFault → Type 0
IsNoType line TooDeep = IsTooDeep line
IsNoType line (Unexpected byte) = IsFlat line × LeavesAt type_words Always line byte false
IsNoType line (ReservedName byte) = IsFlat line × LeavesAt type_words Always line byte true
IsNoType line TooManyNodes = IsFlat line × ((t : TypeText) × (type_words t ≡ words_of line) × (max_type_nodes < type_nodes t))
IsNoType line (Variable byte) = ⊥
IsNoType line OutOfMemory = Unit {0}

-- The line spells the schema, with the numbers that the tables give its names.
pub record IsSchemaIn (constructors variables : List (List ℕ)) (line : List ℕ) (schema : OpenType) : Type 0 where
  pub text : TypeText
  pub whole : IsWholeType line text
  pub is : schema ≡ type_schema (number_of constructors) (number_of variables) text
