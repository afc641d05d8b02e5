-- Types without variables among the types that may have some.
use Rattle.std.specs.Prelude.{ℕ, ◌≡◌, false, List, [], ◌∷◌, Some, position}
use Rattle.std.specs.List.{list_any}
use Rattle.cls_base.specs.Types as types
use Rattle.cls_base.specs.Types.{ClosedType}
use Rattle.cls_base.specs.Schemas as schemas
use Rattle.cls_base.specs.Schemas.{OpenType}
use Rattle.cls_syntax.specs.declared.syntax_fault.SyntaxFault.{SyntaxFault}
use Rattle.cls_syntax.specs.declared.syntax_fault.SyntaxFault.TheVariants.{TooDeep, Unexpected, ReservedName, TooManyNodes, Variable, OutOfMemory}
use Rattle.cls_lexer.specs.Names.{number_of}
use Rattle.cls_lexer.specs.Words.{Word, words_of}
use Rattle.cls_lexer.specs.Tokens.{byte_at}
use Rattle.cls_syntax.specs.TypeTexts.{TypeText, TypeList, last, more}
use Rattle.cls_syntax.specs.TypeSchemas.{is_dollar, type_schema}
use Rattle.cls_syntax.specs.SyntaxFaults.{IsWholeType, IsNoType}

-- the closed type as a type that may have variables
abbrev pub opened : ClosedType → OpenType
opened types.omega = schemas.omega
opened (types.constructor c s) = schemas.constructor c (opened s)
opened (types.product s t) = schemas.product (opened s) (opened t)
opened (types.arrow s t) = schemas.arrow (opened s) (opened t)
opened (types.meet s t) = schemas.meet (opened s) (opened t)

-- The closed type where no variable stands in the type. A variable counts as omega.
abbrev pub closed : OpenType → ClosedType
closed schemas.omega = types.omega
closed (schemas.constructor c s) = types.constructor c (closed s)
closed (schemas.product s t) = types.product (closed s) (closed t)
closed (schemas.arrow s t) = types.arrow (closed s) (closed t)
closed (schemas.meet s t) = types.meet (closed s) (closed t)
closed (schemas.variable v) = types.omega

-- No `$` stands in the words.
abbrev pub HasNoDollar : List Word → Type 0
HasNoDollar ws = list_any is_dollar ws ≡ false

-- The text spells the closed type, whatever numbers variables have.
abbrev pub Spells : (List ℕ → ℕ) → TypeText → ClosedType → Type 0
Spells constructor t closed = (variable : List ℕ → ℕ) → opened closed ≡ type_schema constructor variable t

-- The types that the texts spell, in order.
abbrev pub AreSpelled : (List ℕ → ℕ) → TypeList → List ClosedType → Type 0
AreSpelled number (last t) types = (type : ClosedType) × Spells number t type × (types ≡ type ∷ [])
AreSpelled number (more t ts) types =
    (type : ClosedType) × (rest : List ClosedType)
    × Spells number t type × AreSpelled number ts rest × (types ≡ type ∷ rest)

-- The line spells the type, with the numbers that the table gives its names.
pub record IsTypeIn (constructors : List (List ℕ)) (line : List ℕ) (type : ClosedType) : Type 0 where
  pub text : TypeText
  pub whole : IsWholeType line text
  pub is : Spells (number_of constructors) text type

-- The line spells a type within the limits, and the byte is that of its first `$`.
pub record HasVariableAt (line : List ℕ) (byte : ℕ) : Type 0 where
  pub text : TypeText
  pub whole : IsWholeType line text
  pub place : ℕ
  pub first : position is_dollar (words_of line) ≡ Some place
  pub byte_is : byte ≡ byte_at line place

-- Why the line spells no closed type within the limits. Out of memory says nothing.
abbrev pub IsNoClosedType : List ℕ → SyntaxFault → Type 0
IsNoClosedType line TooDeep = IsNoType line TooDeep
IsNoClosedType line (Unexpected byte) = IsNoType line (Unexpected byte)
IsNoClosedType line (ReservedName byte) = IsNoType line (ReservedName byte)
IsNoClosedType line TooManyNodes = IsNoType line TooManyNodes
IsNoClosedType line (Variable byte) = HasVariableAt line byte
IsNoClosedType line OutOfMemory = Unit {0}
