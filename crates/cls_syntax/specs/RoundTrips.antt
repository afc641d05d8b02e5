-- Types that are printed and read again.
use Rattle.cls_base.specs.Limits.{max_type_nodes, max_type_depth}
use Rattle.std.specs.Prelude.{ℕ, ◌≡◌, ◌≤◌, true, false, List, [], ◌∷◌, length}
use Rattle.std.specs.List.{list_all, IsDistinct}
use Rattle.std.specs.Str.{bytes_eq}
use Rattle.cls_base.specs.Types.{ClosedType, omega, constructor, product, arrow, meet, nodes, depth}
use Rattle.cls_lexer.specs.Characters.{is_name_start, is_name_byte}
use Rattle.cls_base.specs.Limits.{max_name_bytes}
use Rattle.cls_lexer.specs.Words.{words_of, reserved_name}
use Rattle.cls_lexer.specs.Names.{number_of}
use Rattle.cls_syntax.specs.Depths.{most_open}
use Rattle.cls_syntax.specs.TypeTexts.{TypeText}
use Rattle.cls_syntax.specs.TypeSchemas.{with_constructors}
use Rattle.cls_syntax.specs.TypePrinting.{name_in, HasNamesBelow, printed}
use Rattle.cls_syntax.specs.SyntaxFaults.{IsWholeType}
use Rattle.cls_syntax.specs.ClosedTypes.{HasNoDollar, Spells}

-- A name that isn't reserved.
abbrev pub IsProperName : List ℕ → Type 0
IsProperName [] = ⊥
IsProperName (b ∷ bs) = (is_name_start b ≡ true) × (list_all is_name_byte bs ≡ true) × (length (b ∷ bs) ≤ max_name_bytes) × (bytes_eq (b ∷ bs) reserved_name ≡ false)

-- Each name of the type has such a text.
abbrev pub HasProperNames : (ℕ → List ℕ) → ClosedType → Type 0
HasProperNames name omega = Unit {0}
HasProperNames name (constructor c s) = IsProperName (name c) × HasProperNames name s
HasProperNames name (product s t) = HasProperNames name s × HasProperNames name t
HasProperNames name (arrow s t) = HasProperNames name s × HasProperNames name t
HasProperNames name (meet s t) = HasProperNames name s × HasProperNames name t

-- The text of the type spells the type and no other, and its names are known.
pub record IsReadBack (names : List (List ℕ)) (t : ClosedType) : Type 0 where
  pub text : TypeText
  pub whole : IsWholeType (printed (name_in names) 0 t) text
  pub only : (other : TypeText) → IsWholeType (printed (name_in names) 0 t) other → other ≡ text
  pub closed : HasNoDollar (words_of (printed (name_in names) 0 t))
  pub spells : Spells (number_of names) text t
  pub known : with_constructors names (words_of (printed (name_in names) 0 t)) ≡ names

-- What is printed is read as the type that it was, where it is within the limits.
abbrev pub PrintedTypesAreRead : Type 0
PrintedTypesAreRead =
    (names : List (List ℕ)) (t : ClosedType) → IsDistinct bytes_eq names → HasNamesBelow (length names) t
    → HasProperNames (name_in names) t → nodes t ≤ max_type_nodes → depth t ≤ max_type_depth → IsReadBack names t

-- The depth of a type is the most parentheses that are open at once in its text.
abbrev pub DepthIsMostOpen : Type 0
DepthIsMostOpen =
    (names : List (List ℕ)) (t : ClosedType) → HasProperNames (name_in names) t
    → depth t ≡ most_open 0 0 (words_of (printed (name_in names) 0 t))

-- What is read and then printed is read again as the type that it was, with the names as they are.
abbrev pub ReadTypesAreReadAgain : Type 0
ReadTypesAreReadAgain =
    (old : List (List ℕ)) (line : List ℕ) (text : TypeText) (t : ClosedType)
    → IsDistinct bytes_eq (with_constructors old (words_of line)) → IsWholeType line text → HasNoDollar (words_of line)
    → Spells (number_of (with_constructors old (words_of line))) text t
    → HasNamesBelow (length (with_constructors old (words_of line))) t × IsReadBack (with_constructors old (words_of line)) t
