-- What spells the type omega is the one word for it.
use Rattle.std.proofs.Common.{◌≡◌, Bool, List, [], ◌∷◌, length, refl, sym, ap, ◌∙◌, arith}
use Rattle.std.specs.Prelude.{IsTrue, ◌↔◌, nat_eq, Result}
use Rattle.std.proofs.lemmas.List.{length-map}
use Rattle.std.proofs.lemmas.Bool.{eqb-true}
use Rattle.cls_lexer.specs.declared.token.Token.{Token}
use Rattle.cls_lexer.specs.Words as word
use Rattle.cls_lexer.specs.Words.{Word, name, number, sign, word_of, words}
use Rattle.cls_syntax.specs.Faults.{Stop}
use Rattle.cls_syntax.specs.Sorts.{begins_reserved}
use Rattle.cls_syntax.specs.TypeTexts.{TypeText, type_words}
use Rattle.cls_syntax.specs.TypeReading.{type_front}
use Rattle.cls_syntax.specs.Spans.{is_whole, read_or, type_in, omega_text}
use Rattle.cls_syntax.proofs.ItemFronts.{type_again}
use Rattle.cls_syntax.proofs.TypeSpans.{spelled_words}

omega_read : type_in (word.omega ∷ []) ≡ omega_text
omega_read = ap (λ (x : Result (TypeText × List Word) Stop). read_or omega_text x) (type_again omega_text [] tt)

alone : (ws : List Word) → length ws ≡ 1 → IsTrue (begins_reserved ws) → ws ≡ word.omega ∷ []
alone [] n h = cc
alone (word.omega ∷ []) n h = refl
alone (word.omega ∷ w ∷ ws) n h = absurd (omega arith)
alone (name x ∷ ws) n h = cc
alone (number x ∷ ws) n h = cc
alone (sign k ∷ ws) n h = cc

module _ (ts : List Token) (whole : IsTrue (is_whole (type_front (words ts)))) where
  as_omega : type_in (words ts) ≡ omega_text → words ts ≡ word.omega ∷ []
  as_omega e = spelled_words (words ts) whole ∙ ap type_words e

  as_many : type_in (words ts) ≡ omega_text → length ts ≡ 1
  as_many e = sym (length-map ts word_of) ∙ ap length (as_omega e)

  -- one token, the reserved name
  pub omega_alone : length ts ≡ 1 → (answer : Bool) → answer ≡ begins_reserved (words ts) → IsTrue answer ↔ (type_in (words ts) ≡ omega_text)
  omega_alone n answer is = (
    (λ h. ap type_in (alone (words ts) (length-map ts word_of ∙ n) (sym is ∙ h)) ∙ omega_read),
    λ e. is ∙ ap begins_reserved (as_omega e),
  )

  -- any other number of tokens
  pub not_alone : (length ts ≡ 1 → ⊥) → IsTrue (nat_eq (length ts) 1) ↔ (type_in (words ts) ≡ omega_text)
  not_alone n = (λ h. absurd (n (eqb-true (length ts) 1 h)), λ e. absurd (n (as_many e)))
