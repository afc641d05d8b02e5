-- internal: a schema as it is built, while its names are numbered in tables that grow
use Rattle.std.specs.Prelude.{ℕ, Bool, true, false, List, [], ◌∷◌, Option, Some, None, if◌then◌else◌}
use Rattle.cls_base.specs.Schemas.{OpenType}
use Rattle.cls_lexer.specs.Names.{number_of, with_texts}
use Rattle.cls_lexer.specs.Words.{Word, word_of, words}
use Rattle.cls_lexer.specs.declared.token.Token.{Token}
use Rattle.cls_lexer.specs.declared.token.TokenKind.TheVariants as kinds
use Rattle.cls_syntax.specs.declared.sort.Sort.{Sort}
use Rattle.cls_syntax.specs.declared.sort.Sort.TheVariants.{Name}
use Rattle.cls_syntax.specs.Sorts.{sort_of}
use Rattle.cls_syntax.specs.TypeSchemas.{is_dollar, name_text, constructors_in, variables_in}
use Rattle.cls_syntax.specs.SchemaReading.{State, step, ended}

-- The table of constructors after the word came. `behind` says that a `$` stands directly before it.
abbrev pub constructors_after : List (List ℕ) → (behind : Bool) → Word → List (List ℕ)
constructors_after table behind w = with_texts table (name_text (if behind then false else true) w)

-- The table of variables after the word came.
abbrev pub variables_after : List (List ℕ) → (behind : Bool) → Word → List (List ℕ)
variables_after table behind w = with_texts table (name_text behind w)

-- The number of a name in its table. What is no name has the number 0.
abbrev pub number_in : (constructors variables : List (List ℕ)) (behind : Bool) → Sort → List ℕ → ℕ
number_in constructors variables behind Name text = if behind then number_of variables text else number_of constructors text
number_in constructors variables behind _ text = 0

-- A parenthesis opens at the token, where there is one.
abbrev pub is_opening : Option Token → Bool
is_opening None = false
is_opening (Some l) = elim l.kind [ kinds.Open ↦ true | _ ↦ false ]

-- What comes of tokens: the schema that was read, if one was, and the tables in the end.
pub record Outcome : Type 0 where
  pub schema : Option OpenType
  pub constructors : List (List ℕ)
  pub variables : List (List ℕ)

-- What a variable of a number is, where there may be any.
module _ (leaf : ℕ → Option OpenType) where
  -- a token of this sort, which has this number if it is a name
  abbrev pub numbered_step : ℕ → State → Sort → Option State
  numbered_step n s sort = step (λ _. n) (λ _. leaf n) s sort []

  abbrev pub numbered_reading : (constructors variables : List (List ℕ)) (behind : Bool) → State → List Token → Option OpenType
  numbered_reading cs vs behind s [] = ended s
  numbered_reading cs vs behind s (l ∷ ls) =
      elim (numbered_step (number_in (constructors_after cs behind (word_of l)) (variables_after vs behind (word_of l)) behind (sort_of (word_of l)) l.text.now) s (sort_of (word_of l))) [
        | None ↦ None
        | Some t ↦ numbered_reading (constructors_after cs behind (word_of l)) (variables_after vs behind (word_of l)) (is_dollar (word_of l)) t ls
      ]

  abbrev pub outcome : (constructors variables : List (List ℕ)) (behind : Bool) → State → List Token → Outcome
  outcome cs vs behind s ls = record {
    schema = numbered_reading cs vs behind s ls;
    constructors = with_texts cs (constructors_in behind (words ls));
    variables = with_texts vs (variables_in behind (words ls));
  }
