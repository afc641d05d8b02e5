-- A term of which no component's number is beyond the table has no name that isn't in the table.
use Rattle.std.proofs.Common.{◌≡◌, ℕ, ◌+◌, ◌<◌, Bool, true, false, cond, not, List, [], ◌∷◌, length, refl, ap, sym, ◌∙◌, subst, arith}
use Rattle.std.specs.Prelude.{Option, Some, None, IfSome, ◌||◌, position}
use Rattle.std.specs.List.{list_any}
use Rattle.std.specs.Str.{bytes_eq}
use Rattle.cls_lexer.specs.Names.{number_of}
use Rattle.cls_lexer.specs.Words.{Word, sign}
use Rattle.cls_lexer.specs.declared.token.TokenKind.TheVariants.{Close, Comma}
use Rattle.cls_syntax.specs.declared.spelled_term.SpelledTerm.{SpelledTerm}
use Rattle.cls_syntax.specs.SpelledTerms.{term_text}
use Rattle.cls_syntax.specs.TermTexts.{TermText, TermList, named, applied, last, more, term_words, terms_words}
use Rattle.cls_term.specs.Components.{greatest_of, greatest_in}
use Rattle.cls_term.specs.TermReadings.{term_of, terms_of}
use Rattle.cls_term.specs.TokenFaults as faults
use Rattle.cls_term.proofs.Spines.{greatest_of-spine_of}
use Rattle.cls_query.specs.declared.query.Query.TheVariants.{Sub, Paths, Typed, About, Page, Filtered, Batch}
use Rattle.cls_query.specs.FormAnswers.{SpelledQuery, query_text, term_spelled, spelled_in}
use Rattle.cls_query.specs.Queries.{query_parts}
use Rattle.cls_query.specs.QueryErrors.{is_absent, is_unknown_in_term}
use Rattle.cls_query.proofs.BatchLines.{batch_placed}
use Rattle.cls_query.proofs.CodeForms.{sub_placed, about_placed, typed_placed, plain_placed, cursor_placed, filtered_plain_placed, filtered_cursor_placed}
use Rattle.cls_query.proofs.Searches.{both_none, place_none, behind}

-- a name with a number of the table is in the table
below_held : (table : List (List ℕ)) (x : List ℕ) → number_of table x < length table → is_absent table x ≡ false
below_held [] x l = absurd (omega (arith, l))
below_held (y ∷ ys) x l =
    (elim (bytes_eq x y) as (λ b. cond (not b) (1 + number_of ys x) 0 < length (y ∷ ys) → not (b || list_any (bytes_eq x) ys) ≡ false) [
      | true ↦ λ k. refl
      | false ↦ λ k. below_held ys x (omega (arith, k))
    ]) l

module _ (table : List (List ℕ)) where
  abbrev stray : Word → Bool
  stray = faults.is_unknown table

  mutual
    pub term_held : (e : TermText) → greatest_of (term_of (number_of table) e) < length table → list_any (faults.is_unknown table) (term_words e) ≡ false
    term_held (named x) l = λ i. below_held table x l i || false
    term_held (applied x es) l =
        let split = greatest_of-spine_of (number_of table x) (terms_of (number_of table) es) in
        let first = below_held table x (omega (arith, split, l)) in
        let others = both_none stray (terms_words es) (sign Close ∷ []) (terms_held es (omega (arith, split, l))) refl in
        λ i. first i || others i

    terms_held : (es : TermList) → greatest_in (terms_of (number_of table) es) < length table → list_any stray (terms_words es) ≡ false
    terms_held (last e) l = term_held e (omega (arith, l))
    terms_held (more e es) l =
        both_none stray (term_words e) (sign Comma ∷ terms_words es) (term_held e (omega (arith, l))) (terms_held es (omega (arith, l)))

  -- the same for the term of a form
  abbrev pub IsHeld : SpelledTerm → Type 0
  IsHeld x = greatest_of (spelled_in table x) < length table

  no_stray : (x : SpelledTerm) → IsHeld x → (n : ℕ) → behind n (position stray (term_words (term_text x))) ≡ None
  no_stray x l n = ap (behind n) (place_none stray (term_words (term_text x)) (term_held (term_text x) l))

  pub form_held : (q : SpelledQuery) → (o : Option SpelledTerm) → term_spelled q ≡ o → IfSome o IsHeld
      → position (is_unknown_in_term table) (query_parts (query_text q)) ≡ None
  form_held (Sub s t) o e h = sym (sub_placed table {s = s} {t = t} refl)
  form_held (Paths x) o e h = refl
  form_held (Typed x t) o e h = typed_placed table {e = x} {t = t} refl ∙ no_stray x (subst (λ (p : Option SpelledTerm). IfSome p IsHeld) (sym e) h) 1
  form_held (About word t) o e h = sym (about_placed table {word = word} {t = t} refl)
  form_held (Page word l) None e h = plain_placed table word l e
  form_held (Page word l) (Some x) e h = cursor_placed table word l x e _ refl ∙ no_stray x h _
  form_held (Filtered f l) None e h = filtered_plain_placed table f l e
  form_held (Filtered f l) (Some x) e h = filtered_cursor_placed table f l x e _ refl ∙ no_stray x h _
  form_held (Batch ts) o e h = sym (batch_placed table {ts = ts} refl)
