-- The text of a term is read as that term.
use Rattle.std.proofs.Common.{◌≡◌, ℕ, ◌<◌, Bool, true, false, not, List, [], ◌∷◌, ◌++◌, refl, ap, sym, ◌∙◌, length, get_or, append_assoc, append-nil, arith}
use Rattle.std.specs.Prelude.{Result, Ok, ◌||◌}
use Rattle.std.specs.List.{list_any, IsDistinct}
use Rattle.std.specs.Str.{bytes_eq}
use Rattle.std.proofs.lemmas.List.Folds.{list_any_at}
use Rattle.cls_base.specs.Terms.{Applicative, component, apply}
use Rattle.cls_base.specs.Spines.{spine}
use Rattle.cls_lexer.specs.declared.token.TokenKind.TheVariants.{Open, Close, Comma}
use Rattle.cls_lexer.specs.Names.{number_of}
use Rattle.cls_lexer.specs.Words.{Word, name, sign, words_of}
use Rattle.cls_syntax.specs.Faults.{Stop}
use Rattle.cls_syntax.specs.TermTexts.{TermText, TermList, named, applied, last, more, term_words, terms_words}
use Rattle.cls_syntax.specs.TermReading.{term_front}
use Rattle.cls_syntax.proofs.ItemFronts.{term_again}
use Rattle.cls_syntax.proofs.ReadBack.{number_back, same_bytes}
use Rattle.cls_syntax.proofs.TypeBytes.{words_from, Stops, at_open, at_comma, at_close, at_name, words_are, no_words}
use Rattle.cls_term.specs.Components.{greatest_of}
use Rattle.cls_term.specs.Texts.{name_at, text_of, open_text}
use Rattle.cls_term.specs.TermReadings.{term_of, terms_of}
use Rattle.cls_term.specs.TokenFaults.{is_unknown}
use Rattle.cls_term.specs.RoundTrips.{HasProperComponents, PrintedTermsAreRead}

-- one argument more
abbrev with_last : TermList → TermText → TermList
with_last (last e) a = more e (last a)
with_last (more e es) a = more e (with_last es a)

abbrev with_argument : TermText → TermText → TermText
with_argument (named x) a = applied x (last a)
with_argument (applied x es) a = applied x (with_last es a)

-- the words up to the place of the next argument
abbrev open_words : TermText → List Word
open_words (named x) = name x ∷ sign Open ∷ []
open_words (applied x es) = name x ∷ sign Open ∷ (terms_words es ++ sign Comma ∷ [])

list_words : (es : TermList) (a : TermText) → terms_words (with_last es a) ≡ terms_words es ++ sign Comma ∷ term_words a
list_words (last e) a = refl
list_words (more e es) a = ap (λ (ws : List Word). term_words e ++ sign Comma ∷ ws) (list_words es a) ∙ sym (append_assoc (term_words e) (sign Comma ∷ terms_words es) (sign Comma ∷ term_words a))

-- the list, a comma, one term more and a last word
list_then : (es : TermList) (a : TermText) (w : Word) → terms_words (with_last es a) ++ w ∷ [] ≡ (terms_words es ++ sign Comma ∷ []) ++ (term_words a ++ w ∷ [])
list_then es a w =
    ap (λ (ws : List Word). ws ++ w ∷ []) (list_words es a)
    ∙ (append_assoc (terms_words es) (sign Comma ∷ term_words a) (w ∷ []) ∙ sym (append_assoc (terms_words es) (sign Comma ∷ []) (term_words a ++ w ∷ [])))

closed_words : (t a : TermText) → term_words (with_argument t a) ≡ open_words t ++ (term_words a ++ sign Close ∷ [])
closed_words (named x) a = refl
closed_words (applied x es) a = ap (λ (ws : List Word). name x ∷ sign Open ∷ ws) (list_then es a (sign Close))

further_words : (t a : TermText) → open_words (with_argument t a) ≡ open_words t ++ (term_words a ++ sign Comma ∷ [])
further_words (named x) a = refl
further_words (applied x es) a = ap (λ (ws : List Word). name x ∷ sign Open ∷ ws) (list_then es a (sign Comma))

module _ (text : ℕ → List ℕ) where
  abbrev pub spelled : Applicative → TermText
  spelled (component x) = named (text x)
  spelled (apply f a) = with_argument (spelled f) (spelled a)

  -- a word behind an argument of a function
  behind : (f a : Applicative) (end rest : List ℕ) (w : Word)
      → ((more : List ℕ) → words_from 0 (open_text text f ++ more) ≡ open_words (spelled f) ++ words_from 0 more)
      → words_from 0 (text_of text a ++ (end ++ rest)) ≡ term_words (spelled a) ++ words_from 0 (end ++ rest)
      → words_from 0 (end ++ rest) ≡ w ∷ words_from 0 rest
      → words_from 0 (((open_text text f ++ text_of text a) ++ end) ++ rest) ≡ (open_words (spelled f) ++ (term_words (spelled a) ++ w ∷ [])) ++ words_from 0 rest
  behind f a end rest w before argument last_word =
      ap (words_from 0) (append_assoc (open_text text f ++ text_of text a) end rest ∙ append_assoc (open_text text f) (text_of text a) (end ++ rest))
      ∙ (before (text_of text a ++ (end ++ rest))
      ∙ (ap (λ (ws : List Word). open_words (spelled f) ++ ws) (argument ∙ (ap (λ (ws : List Word). term_words (spelled a) ++ ws) last_word ∙ sym (append_assoc (term_words (spelled a)) (w ∷ []) (words_from 0 rest))))
      ∙ sym (append_assoc (open_words (spelled f)) (term_words (spelled a) ++ w ∷ []) (words_from 0 rest))))

  mutual
    text_is : (e : Applicative) (rest : List ℕ) → HasProperComponents text e → Stops rest → words_from 0 (text_of text e ++ rest) ≡ term_words (spelled e) ++ words_from 0 rest
    text_is (component x) rest n s = at_name (text x) rest n s
    text_is (apply f a) rest n s =
        behind f a (41 ∷ []) rest (sign Close) (λ after. open_is f after n.0) (text_is a (41 ∷ rest) n.1 refl) (at_close rest)
        ∙ ap (λ (ws : List Word). ws ++ words_from 0 rest) (sym (closed_words (spelled f) (spelled a)))

    open_is : (e : Applicative) (rest : List ℕ) → HasProperComponents text e → words_from 0 (open_text text e ++ rest) ≡ open_words (spelled e) ++ words_from 0 rest
    open_is (component x) rest n =
        ap (words_from 0) (append_assoc (text x) (40 ∷ []) rest)
        ∙ (at_name (text x) (40 ∷ rest) n refl ∙ ap (λ (ws : List Word). name (text x) ∷ ws) (at_open rest))
    open_is (apply f a) rest n =
        behind f a (44 ∷ 32 ∷ []) rest (sign Comma) (λ after. open_is f after n.0) (text_is a (44 ∷ 32 ∷ rest) n.1 refl) (at_comma rest)
        ∙ ap (λ (ws : List Word). ws ++ words_from 0 rest) (sym (further_words (spelled f) (spelled a)))

  text_words : (e : Applicative) → HasProperComponents text e → words_of (text_of text e) ≡ term_words (spelled e)
  text_words e n =
      words_are (text_of text e)
      ∙ (ap (words_from 0) (sym (append-nil (text_of text e))) ∙ (text_is e [] n tt ∙ (ap (λ (ws : List Word). term_words (spelled e) ++ ws) no_words ∙ append-nil (term_words (spelled e)))))

-- the term of a list with one term more
spine_last : (number_as : List ℕ → ℕ) (f : Applicative) (es : TermList) (a : TermText) → spine f (terms_of number_as (with_last es a)) ≡ apply (spine f (terms_of number_as es)) (term_of number_as a)
spine_last number_as f (last e) a = refl
spine_last number_as f (more e es) a = spine_last number_as (apply f (term_of number_as e)) es a

argument_means : (number_as : List ℕ → ℕ) (t a : TermText) → term_of number_as (with_argument t a) ≡ apply (term_of number_as t) (term_of number_as a)
argument_means number_as (named x) a = refl
argument_means number_as (applied x es) a = spine_last number_as (component (number_as x)) es a

any_both : (names : List (List ℕ)) (ws vs : List Word) → list_any (is_unknown names) ws ≡ false → list_any (is_unknown names) vs ≡ false → list_any (is_unknown names) (ws ++ vs) ≡ false
any_both names [] vs a b = b
any_both names (w ∷ ws) vs a b = any_at (is_unknown names w) (list_any (is_unknown names) ws) a (any_both names ws vs) b where
  any_at : (here others : Bool) → (here || others) ≡ false → (others ≡ false → list_any (is_unknown names) vs ≡ false → list_any (is_unknown names) (ws ++ vs) ≡ false) → list_any (is_unknown names) vs ≡ false → (here || list_any (is_unknown names) (ws ++ vs)) ≡ false
  any_at true others h rest b = cc
  any_at false others h rest b = rest h b

module _ (names : List (List ℕ)) (distinct : IsDistinct bytes_eq names) where
  abbrev text : ℕ → List ℕ
  text x = name_at names x

  means : (e : Applicative) → greatest_of e < length names → term_of (number_of names) (spelled text e) ≡ e
  means (component x) l = ap component (number_back names x distinct l)
  means (apply f a) l =
      argument_means (number_of names) (spelled text f) (spelled text a)
      ∙ (λ i. apply (means f (omega (arith, l)) i) (means a (omega (arith, l)) i))

  name_known : (x : ℕ) → x < length names → is_unknown names (name (text x)) ≡ false
  name_known x l = ap not (list_any_at (bytes_eq (get_or names x [])) names x [] l (same_bytes (get_or names x [])))

  first_known : (x : ℕ) (ws : List Word) → x < length names → list_any (is_unknown names) ws ≡ false → list_any (is_unknown names) (name (text x) ∷ ws) ≡ false
  first_known x ws l h = ap (λ (b : Bool). b || list_any (is_unknown names) ws) (name_known x l) ∙ h

  mutual
    known : (e : Applicative) → greatest_of e < length names → list_any (is_unknown names) (term_words (spelled text e)) ≡ false
    known (component x) l = first_known x [] l refl
    known (apply f a) l =
        ap (list_any (is_unknown names)) (closed_words (spelled text f) (spelled text a))
        ∙ any_both names (open_words (spelled text f)) (term_words (spelled text a) ++ sign Close ∷ []) (open_known f (omega (arith, l)))
        (any_both names (term_words (spelled text a)) (sign Close ∷ []) (known a (omega (arith, l))) refl)

    open_known : (e : Applicative) → greatest_of e < length names → list_any (is_unknown names) (open_words (spelled text e)) ≡ false
    open_known (component x) l = first_known x (sign Open ∷ []) l refl
    open_known (apply f a) l =
        ap (list_any (is_unknown names)) (further_words (spelled text f) (spelled text a))
        ∙ any_both names (open_words (spelled text f)) (term_words (spelled text a) ++ sign Comma ∷ []) (open_known f (omega (arith, l)))
        (any_both names (term_words (spelled text a)) (sign Comma ∷ []) (known a (omega (arith, l))) refl)

-- no two terms have the same words
one_term : (t u : TermText) → term_words t ≡ term_words u → t ≡ u
one_term t u e =
    let a = term_again t [] tt in
    let b = term_again u [] tt in
    let both : Path (Result (TermText × List Word) Stop) (Ok (t, [])) (Ok (u, [])) = sym a ∙ (ap (λ ws. term_front (ws ++ [])) e ∙ b) in
    let pair : Path (TermText × List Word) (t, []) (u, []) = cc in
    ap (λ (p : TermText × List Word). p.0) pair

pub printed_read : PrintedTermsAreRead
printed_read names e distinct below proper flat =
    let said = text_words (name_at names) e proper in
    record {
      text = spelled (name_at names) e;
      whole = record { flat = flat; spells = sym said };
      only = λ other w. one_term other (spelled (name_at names) e) (w.spells ∙ said);
      means = means names distinct e below;
      known = ap (list_any (is_unknown names)) said ∙ known names distinct e below;
    }
