-- What is found among the parts of a query's line.
use Rattle.std.proofs.Common.{◌≡◌, ℕ, Bool, false, List, [], ◌∷◌, ◌++◌, map, refl}
use Rattle.std.specs.Prelude.{Option, Some, None, ◌||◌}
use Rattle.std.specs.List.{list_any}
use Rattle.std.specs.Option.{option_map}
use Rattle.cls_lexer.specs.Words.{Word, name}
use Rattle.cls_lexer.specs.declared.token.TokenKind.TheVariants.{AtMost, Colon}
use Rattle.std.specs.Prelude.{codes}
use Rattle.cls_base.specs.Limits.{max_term_size, max_page_terms}
use Rattle.cls_lexer.specs.Words.{sign}
use Rattle.cls_syntax.specs.declared.role.Role.TheVariants.{Constructor, Variable, TermComponent}
use Rattle.cls_syntax.specs.TypeTexts.{TypeText}
use Rattle.cls_syntax.specs.TermTexts.{TermText}
use Rattle.cls_syntax.specs.Forms.{Values, Part, fixed, naming, numeral, part_word, type_parts, term_parts, line_parts}
use Rattle.cls_query.specs.QueryForms.{comparison_form, typing_form, goal_form, listing_form}
use Rattle.cls_query.specs.Queries.{QueryText, query_words, query_parts}
use Rattle.cls_query.proofs.Searches.{both_none}
use Rattle.cls_query.proofs.PartSearches.{joined_none, type_none, term_none}

-- the words of a line are those of its parts
pub words_of_parts : (q : QueryText) → query_words q ≡ map part_word (query_parts q)
words_of_parts q = refl

-- the numbers of a listing, each behind its word
abbrev pub number_parts : (max take : List ℕ) → List Part
number_parts max take = fixed (name (codes "max")) ∷ numeral 1 max_term_size max ∷ fixed (name (codes "take")) ∷ numeral 1 max_page_terms take ∷ []

-- a test that no fixed word and no name in a type passes
module _ (f : Part → Bool) (no_word : (w : Word) → f (fixed w) ≡ false)
    (no_constructor : (x : List ℕ) → f (naming Constructor x) ≡ false) (no_variable : (x : List ℕ) → f (naming Variable x) ≡ false) where
  only_type : (t : TypeText) → list_any f (type_parts t ++ []) ≡ false
  only_type t = both_none f (type_parts t) [] (type_none f no_word no_constructor no_variable t) refl

  pub comparison_none : (v : Values comparison_form) → list_any f (line_parts comparison_form v) ≡ false
  comparison_none v = joined_none f no_word (type_parts v.0) (sign AtMost) (type_parts v.1.0 ++ []) (type_none f no_word no_constructor no_variable v.0) (only_type v.1.0)

  pub goal_none : (v : Values goal_form) → list_any f (line_parts goal_form v) ≡ false
  goal_none v = only_type v.0

  module _ (no_component : (x : List ℕ) → f (naming TermComponent x) ≡ false) where
    pub only_term : (e : TermText) → list_any f (term_parts e ++ []) ≡ false
    only_term e = both_none f (term_parts e) [] (term_none f no_word no_component e) refl

    pub typing_none : (v : Values typing_form) → list_any f (line_parts typing_form v) ≡ false
    typing_none v = joined_none f no_word (term_parts v.0) (sign Colon) (type_parts v.1.0 ++ []) (term_none f no_word no_component v.0) (only_type v.1.0)

  module _ (no_number : (l g : ℕ) (digits : List ℕ) → f (numeral l g digits) ≡ false) where
    numbers_none : (max take : List ℕ) → list_any f (number_parts max take) ≡ false
    numbers_none max take = λ i. no_word (name (codes "max")) i || (no_number 1 max_term_size max i || (no_word (name (codes "take")) i || (no_number 1 max_page_terms take i || false)))

    pub uncursored_none : (t : TypeText) (max take : List ℕ) → list_any f (line_parts listing_form (t, (max, (take, None)))) ≡ false
    uncursored_none t max take = both_none f (type_parts t) (number_parts max take) (type_none f no_word no_constructor no_variable t) (numbers_none max take)

    module _ (no_component : (x : List ℕ) → f (naming TermComponent x) ≡ false) where
      -- the parts of a listing behind its type
      behind_none : (max take : List ℕ) (e : TermText) → list_any f (number_parts max take ++ fixed (name (codes "after")) ∷ (term_parts e ++ [])) ≡ false
      behind_none max take e = joined_none f no_word (number_parts max take) (name (codes "after")) (term_parts e ++ []) (numbers_none max take) (only_term no_component e)

      cursored_none : (t : TypeText) (max take : List ℕ) (e : TermText) → list_any f (line_parts listing_form (t, (max, (take, Some (e, tt))))) ≡ false
      cursored_none t max take e =
          both_none f (type_parts t) (number_parts max take ++ fixed (name (codes "after")) ∷ (term_parts e ++ [])) (type_none f no_word no_constructor no_variable t) (behind_none max take e)

      pub listing_none : (t : TypeText) (max take : List ℕ) (after : Option TermText) → list_any f (line_parts listing_form (t, (max, (take, option_map (λ e. (e, tt)) after)))) ≡ false
      listing_none t max take None = uncursored_none t max take
      listing_none t max take (Some e) = cursored_none t max take e
