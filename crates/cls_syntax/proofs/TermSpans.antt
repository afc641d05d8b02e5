-- The tokens of a term at the front of a line.
use Rattle.std.proofs.Common.{◌≡◌, ℕ, Bool, List, [], ◌∷◌, refl, ap, sym, ◌∙◌, subst, map, take, drop, take-append-drop, append-nil}
use Rattle.std.specs.Prelude.{Result, Ok, Err, IsTrue}
use Rattle.std.proofs.lemmas.List.{take-map, drop-map, append_cancel_right}
use Rattle.cls_lexer.specs.declared.token.Token.{Token}
use Rattle.cls_lexer.specs.Words.{Word, word_of}
use Rattle.cls_lexer.specs.Words.{words}
use Rattle.cls_syntax.specs.Sorts.{sort_of}
use Rattle.cls_syntax.specs.Faults.{Stop, stop}
use Rattle.cls_syntax.specs.TermTexts.{TermText, named, term_words}
use Rattle.cls_syntax.specs.TermReading.{term_front}
use Rattle.cls_syntax.specs.TermShapes.{shape_start, shape_reading}
use Rattle.cls_syntax.specs.Spans.{is_whole, read_or, term_in}
use Rattle.cls_syntax.proofs.ItemFronts.{term_ok, term_again}
use Rattle.cls_syntax.proofs.TypeSpans.{sorts_same}
use Rattle.cls_syntax.proofs.TermShapeReads.{EndsAt, term_ends_at}

ends_at : (ls : List Token) (r : Result ℕ (ℕ × Bool)) → r ≡ shape_reading shape_start 0 (map (λ l. sort_of (word_of l)) ls) → EndsAt (words ls) r (term_front (words ls))
ends_at ls r e = subst (λ (x : Result ℕ (ℕ × Bool)). EndsAt (words ls) x (term_front (words ls))) (ap (shape_reading shape_start 0) (sorts_same ls) ∙ sym e) (term_ends_at (words ls))

-- the front of the tokens spells a term
pub record IsTermSpan (ls : List Token) (end : ℕ) : Type 0 where
  pub spelled : IsTrue (is_whole (term_front (words (take end ls))))
  pub reads : term_front (words ls) ≡ Ok (term_in (words (take end ls)), words (drop end ls))

pub term_span : (ls : List Token) (end : ℕ) → Ok end ≡ shape_reading shape_start 0 (map (λ l. sort_of (word_of l)) ls) → IsTermSpan ls end
term_span ls end h =
    let r = ends_at ls (Ok end) h in
    let e : TermText = r.0 in
    let is = term_ok (words ls) (drop end (words ls)) e r.1 in
    let front : term_words e ≡ words (take end ls) = append_cancel_right (term_words e) (take end (words ls)) (drop end (words ls)) (sym is.0 ∙ sym (take-append-drop end (words ls))) ∙ take-map word_of end ls in
    let whole : term_front (words (take end ls)) ≡ Ok (e, []) = ap term_front (sym front ∙ sym (append-nil (term_words e))) ∙ term_again e [] tt in
    let read : term_in (words (take end ls)) ≡ e = ap (λ (x : Result (TermText × List Word) Stop). read_or (named []) x) whole in
    record {
      spelled = ap (λ (x : Result (TermText × List Word) Stop). is_whole x) whole;
      reads = r.1 ∙ (ap (λ (x : List Word). Ok (e, x)) (drop-map word_of end ls) ∙ ap (λ (x : TermText). Ok (x, words (drop end ls))) (sym read));
    }

pub term_stop : (ls : List Token) (place : ℕ) (wants : Bool) → Err (place, wants) ≡ shape_reading shape_start 0 (map (λ l. sort_of (word_of l)) ls) → term_front (words ls) ≡ Err (stop (words (drop place ls)) wants)
term_stop ls place wants e = ends_at ls (Err (place, wants)) e ∙ ap (λ (x : List Word). Err (stop x wants)) (drop-map word_of place ls)

pub ruleset term_spans = (term_span, term_stop)

-- what spells a term is its words
pub spelled_words : (ws : List Word) → IsTrue (is_whole (term_front ws)) → ws ≡ term_words (term_in ws)
spelled_words ws h = whole_words (term_front ws) refl h where
  whole_words : (r : Result (TermText × List Word) Stop) → term_front ws ≡ r → IsTrue (is_whole r) → ws ≡ term_words (read_or (named []) r)
  whole_words (Ok (e, [])) is h = (term_ok ws [] e is).0 ∙ append-nil (term_words e)
  whole_words (Ok (e, w ∷ vs)) is h = cc
  whole_words (Err s) is h = cc
