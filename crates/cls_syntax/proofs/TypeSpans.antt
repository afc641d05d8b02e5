-- The tokens of a type at the front of a line.
use Rattle.std.proofs.Common.{◌≡◌, ℕ, Bool, List, [], ◌∷◌, refl, ap, sym, ◌∙◌, subst, map, take, drop, take-append-drop, append-nil}
use Rattle.std.specs.Prelude.{Result, Ok, Err, IsTrue}
use Rattle.std.proofs.lemmas.List.{take-map, drop-map, append_cancel_right}
use Rattle.cls_lexer.specs.declared.token.Token.{Token}
use Rattle.cls_lexer.specs.Words.{Word, word_of}
use Rattle.cls_lexer.specs.Words.{words}
use Rattle.cls_syntax.specs.Sorts.{sort_of}
use Rattle.cls_syntax.specs.Faults.{Stop, stop}
use Rattle.cls_syntax.specs.TypeTexts.{TypeText, type_words, type_nodes}
use Rattle.cls_syntax.specs.TypeReading.{type_front}
use Rattle.cls_syntax.specs.TypeShapes.{held, shape_start, shape_reading}
use Rattle.cls_syntax.specs.Spans.{is_whole, read_or, omega_text, type_in}
use Rattle.cls_syntax.proofs.ItemFronts.{type_ok, type_again}
use Rattle.cls_syntax.proofs.TypeShapeReads.{EndsAt, type_ends_at}

pub sorts_same : (ls : List Token) → map sort_of (words ls) ≡ map (λ l. sort_of (word_of l)) ls
sorts_same [] = refl
sorts_same (l ∷ ls) = ap (λ ks. sort_of (word_of l) ∷ ks) (sorts_same ls)

ends_at : (ls : List Token) (r : Result (ℕ × ℕ) (ℕ × Bool)) → r ≡ shape_reading shape_start 0 (map (λ l. sort_of (word_of l)) ls) → EndsAt (words ls) r (type_front (words ls))
ends_at ls r e = subst (λ (x : Result (ℕ × ℕ) (ℕ × Bool)). EndsAt (words ls) x (type_front (words ls))) (ap (shape_reading shape_start 0) (sorts_same ls) ∙ sym e) (type_ends_at (words ls))

-- the front of the tokens spells a type
pub record IsTypeSpan (ls : List Token) (end nodes : ℕ) : Type 0 where
  pub spelled : IsTrue (is_whole (type_front (words (take end ls))))
  pub counted : nodes ≡ held (type_nodes (type_in (words (take end ls))))
  pub reads : type_front (words ls) ≡ Ok (type_in (words (take end ls)), words (drop end ls))

pub type_span : (ls : List Token) (end nodes : ℕ) → Ok (end, nodes) ≡ shape_reading shape_start 0 (map (λ l. sort_of (word_of l)) ls) → IsTypeSpan ls end nodes
type_span ls end nodes e =
    let r = ends_at ls (Ok (end, nodes)) e in
    let t : TypeText = r.0 in
    let is = type_ok (words ls) (drop end (words ls)) t r.1 in
    let front : type_words t ≡ words (take end ls) = append_cancel_right (type_words t) (take end (words ls)) (drop end (words ls)) (sym is.0 ∙ sym (take-append-drop end (words ls))) ∙ take-map word_of end ls in
    let whole : type_front (words (take end ls)) ≡ Ok (t, []) = ap type_front (sym front ∙ sym (append-nil (type_words t))) ∙ type_again t [] tt in
    let read : type_in (words (take end ls)) ≡ t = ap (λ (x : Result (TypeText × List Word) Stop). read_or omega_text x) whole in
    record {
      spelled = ap (λ (x : Result (TypeText × List Word) Stop). is_whole x) whole;
      counted = r.2 ∙ ap (λ (x : TypeText). held (type_nodes x)) (sym read);
      reads = r.1 ∙ (ap (λ (x : List Word). Ok (t, x)) (drop-map word_of end ls) ∙ ap (λ (x : TypeText). Ok (x, words (drop end ls))) (sym read));
    }

pub type_stop : (ls : List Token) (place : ℕ) (wants : Bool) → Err (place, wants) ≡ shape_reading shape_start 0 (map (λ l. sort_of (word_of l)) ls) → type_front (words ls) ≡ Err (stop (words (drop place ls)) wants)
type_stop ls place wants e = ends_at ls (Err (place, wants)) e ∙ ap (λ (x : List Word). Err (stop x wants)) (drop-map word_of place ls)

pub ruleset type_spans = (type_span, type_stop)

-- what spells a type is its words
pub spelled_words : (ws : List Word) → IsTrue (is_whole (type_front ws)) → ws ≡ type_words (type_in ws)
spelled_words ws h = whole_words (type_front ws) refl h where
  whole_words : (r : Result (TypeText × List Word) Stop) → type_front ws ≡ r → IsTrue (is_whole r) → ws ≡ type_words (read_or omega_text r)
  whole_words (Ok (t, [])) is h = (type_ok ws [] t is).0 ∙ append-nil (type_words t)
  whole_words (Ok (t, w ∷ vs)) is h = cc
  whole_words (Err s) is h = cc
