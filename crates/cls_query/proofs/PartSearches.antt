-- Searches along the parts of types and terms.
use Rattle.std.proofs.Common.{◌≡◌, ℕ, Bool, false, List, [], ◌∷◌, ◌++◌, refl, ap, sym, ◌∙◌}
use Rattle.std.specs.Prelude.{◌||◌, position}
use Rattle.std.specs.List.{list_any, AllByRecursion}
use Rattle.cls_lexer.proofs.TextTables.{position-map}
use Rattle.cls_lexer.specs.declared.token.TokenKind.{TokenKind}
use Rattle.cls_lexer.specs.declared.token.TokenKind.TheVariants.{To, And, Times, Open, Close, Comma, Dollar}
use Rattle.cls_lexer.specs.Words as word
use Rattle.cls_lexer.specs.Words.{Word, sign}
use Rattle.cls_syntax.specs.declared.role.Role.TheVariants.{Constructor, Variable, TermComponent}
use Rattle.cls_syntax.specs.TypeTexts.{TypeText, MeetText, ProductText, AtomText, only_meet, arrow, only_product, meet, only_atom, product, omega, named, applied, variable, inside}
use Rattle.cls_syntax.specs.TermTexts as term
use Rattle.cls_syntax.specs.TermTexts.{TermText, TermList, term_words}
use Rattle.cls_syntax.specs.Forms.{Part, fixed, naming, part_word, type_parts, meet_parts, product_parts, atom_parts, term_parts, terms_parts}
use Rattle.cls_syntax.proofs.LineParts.{term_same}
use Rattle.cls_term.specs.TokenFaults as faults
use Rattle.cls_query.specs.QueryErrors.{is_unknown_in_term}
use Rattle.cls_query.proofs.Searches.{both_none, same_place, all_both}

-- a test that no fixed word passes
module _ (f : Part → Bool) (no_word : (w : Word) → f (fixed w) ≡ false) where
  pub joined_none : (ps : List Part) (w : Word) (qs : List Part) → list_any f ps ≡ false → list_any f qs ≡ false → list_any f (ps ++ fixed w ∷ qs) ≡ false
  joined_none ps w qs a b = both_none f ps (fixed w ∷ qs) a (λ i. no_word w i || b i)

  -- and that no name in a type passes
  module _ (no_constructor : (x : List ℕ) → f (naming Constructor x) ≡ false) (no_variable : (x : List ℕ) → f (naming Variable x) ≡ false) where
    mutual
      pub type_none : (t : TypeText) → list_any f (type_parts t) ≡ false
      type_none (only_meet m) = meet_none m
      type_none (arrow m t) = joined_none (meet_parts m) (sign To) (type_parts t) (meet_none m) (type_none t)

      meet_none : (m : MeetText) → list_any f (meet_parts m) ≡ false
      meet_none (only_product p) = product_none p
      meet_none (meet m p) = joined_none (meet_parts m) (sign And) (product_parts p) (meet_none m) (product_none p)

      product_none : (p : ProductText) → list_any f (product_parts p) ≡ false
      product_none (only_atom a) = atom_none a
      product_none (product p a) = joined_none (product_parts p) (sign Times) (atom_parts a) (product_none p) (atom_none a)

      atom_none : (a : AtomText) → list_any f (atom_parts a) ≡ false
      atom_none omega = λ i. no_word word.omega i || false
      atom_none (named x) = λ i. no_constructor x i || false
      atom_none (applied x t) = λ i. no_constructor x i || (no_word (sign Open) i || joined_none (type_parts t) (sign Close) [] (type_none t) refl i)
      atom_none (variable x) = λ i. no_word (sign Dollar) i || (no_variable x i || false)
      atom_none (inside t) = λ i. no_word (sign Open) i || joined_none (type_parts t) (sign Close) [] (type_none t) refl i

  -- and that no name in a term passes
  module _ (no_component : (x : List ℕ) → f (naming TermComponent x) ≡ false) where
    mutual
      pub term_none : (e : TermText) → list_any f (term_parts e) ≡ false
      term_none (term.named x) = λ i. no_component x i || false
      term_none (term.applied x es) = λ i. no_component x i || (no_word (sign Open) i || joined_none (terms_parts es) (sign Close) [] (terms_none es) refl i)

      terms_none : (es : TermList) → list_any f (terms_parts es) ≡ false
      terms_none (term.last e) = term_none e
      terms_none (term.more e es) = joined_none (term_parts e) (sign Comma) (terms_parts es) (term_none e) (terms_none es)

-- In a term the names that are unknown are those among its words.
module _ (components : List (List ℕ)) where
  abbrev IsAlike : Part → Type 0
  IsAlike p = is_unknown_in_term components p ≡ faults.is_unknown components (part_word p)

  alike_joined : (ps : List Part) (kind : TokenKind) (qs : List Part) → AllByRecursion IsAlike ps → AllByRecursion IsAlike qs → AllByRecursion IsAlike (ps ++ fixed (sign kind) ∷ qs)
  alike_joined ps kind qs a b = all_both IsAlike ps (fixed (sign kind) ∷ qs) a (refl, b)

  mutual
    term_alike : (e : TermText) → AllByRecursion IsAlike (term_parts e)
    term_alike (term.named x) = (refl, tt)
    term_alike (term.applied x es) = (refl, (refl, alike_joined (terms_parts es) Close [] (terms_alike es) tt))

    terms_alike : (es : TermList) → AllByRecursion IsAlike (terms_parts es)
    terms_alike (term.last e) = term_alike e
    terms_alike (term.more e es) = alike_joined (term_parts e) Comma (terms_parts es) (term_alike e) (terms_alike es)

  pub unknown_in_words : (e : TermText) → position (is_unknown_in_term components) (term_parts e) ≡ position (faults.is_unknown components) (term_words e)
  unknown_in_words e =
      same_place (is_unknown_in_term components) (λ p. faults.is_unknown components (part_word p)) (term_parts e) (term_alike e)
      ∙ (sym (position-map part_word (faults.is_unknown components) (term_parts e)) ∙ ap (position (faults.is_unknown components)) (term_same e))
