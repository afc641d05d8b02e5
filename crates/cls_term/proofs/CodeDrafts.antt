-- The words of a term lead to its code.
use Rattle.std.proofs.Common.{◌≡◌, ℕ, ◌+◌, ◌-◌, List, [], ◌∷◌, ◌++◌, length, take, get_or, refl, sym, ap, ◌∙◌, subst, arith, append_assoc, append-nil, length-append, zero-add}
use Rattle.std.proofs.Math.ListN.{set}
use Rattle.std.proofs.Math.Seq.{set-append_seam, get_or-append_seam, take-append_seam}
use Rattle.cls_base.specs.Terms.{component, code_of}
use Rattle.cls_base.specs.Spines.{spine, codes_of}
use Rattle.cls_lexer.specs.declared.token.TokenKind.TheVariants.{Close, Comma}
use Rattle.cls_lexer.specs.Words.{Word, sign}
use Rattle.cls_syntax.specs.TermTexts.{TermText, TermList, named, applied, last, more, term_words, terms_words}
use Rattle.cls_term.specs.CodeDrafts.{State, innermost, IsOpen, with_argument, Leads}
use Rattle.cls_term.specs.TermReadings.{term_of, terms_of}
use Rattle.cls_term.proofs.Spines.{code_of-spine}

abbrev drafted : List ℕ → List ℕ → State
drafted code places = record { code = code; places = places }

length_last : (xs : List ℕ) (x : ℕ) → length (xs ++ x ∷ []) - 1 ≡ length xs
length_last xs x = omega (arith, length-append xs (x ∷ []))

innermost_last : (places : List ℕ) (place : ℕ) → innermost (places ++ place ∷ []) ≡ place
innermost_last places place =
    ap (λ (n : ℕ). get_or (places ++ place ∷ []) n 0) (length_last places place) ∙ get_or-append_seam places place [] 0

-- the count k of an open component, behind `before`
module _ (before places : List ℕ) where
  abbrev within : ℕ → List ℕ → State
  within k behind = drafted (before ++ k ∷ behind) (places ++ length before ∷ [])

  counted : (k : ℕ) (behind : List ℕ) → with_argument (within k behind) ≡ within (k + 1) behind
  counted k behind =
      let code = before ++ k ∷ behind in
      let here = innermost_last places (length before) in
      let count : get_or code (length before) 0 ≡ k = get_or-append_seam before k behind 0 in
      ap (λ (code' : List ℕ). drafted code' (places ++ length before ∷ []))
      ((λ i. set code (here i) (get_or code (here i) 0 + 1))
      ∙ ap (λ (n : ℕ). set code (length before) (n + 1)) count
      ∙ set-append_seam before k behind (k + 1))

  is_open : (k : ℕ) (behind : List ℕ) → IsOpen (within k behind)
  is_open k behind = record {
    some = omega (arith, length-append places (length before ∷ []));
    within = omega (arith, innermost_last places (length before), length-append before (k ∷ behind));
  }

-- another state, or other words, in place of equal ones
pub moved : (number : List ℕ → ℕ) (ws : List Word) (end : State) {s t : State} → s ≡ t → Leads number s ws end → Leads number t ws end
moved number ws end e h = subst (λ (u : State). Leads number u ws end) e h

other_words : (number : List ℕ → ℕ) (s end : State) {ws vs : List Word} → ws ≡ vs → Leads number s ws end → Leads number s vs end
other_words number s end e h = subst (λ (us : List Word). Leads number s us end) e h

module _ (number : List ℕ → ℕ) where
  mutual
    leads_term : (e : TermText) (code places : List ℕ) (ws : List Word) (end : State)
        → Leads number (drafted (code ++ code_of (term_of number e)) places) ws end
        → Leads number (drafted code places) (term_words e ++ ws) end
    leads_term (named x) code places ws end h = (tt, h)
    leads_term (applied x es) code places ws end h =
        let n = number x in
        let ts = terms_of number es in
        let before = code ++ n ∷ [] in
        let one : code ++ n ∷ 0 ∷ [] ≡ before ++ 0 ∷ [] = sym (append_assoc code (n ∷ []) (0 ∷ [])) in
        let place : length (code ++ n ∷ 0 ∷ []) - 1 ≡ length before = omega (arith, length-append code (n ∷ 0 ∷ []), length-append code (n ∷ [])) in
        let opened : with_argument (drafted (code ++ n ∷ 0 ∷ []) (places ++ (length (code ++ n ∷ 0 ∷ []) - 1) ∷ [])) ≡ within before places 1 [] =
        ap with_argument (λ i. drafted (one i) (places ++ place i ∷ [])) ∙ counted before places 0 [] in
        let whole : code ++ code_of (spine (component n) ts) ≡ before ++ (0 + length ts) ∷ codes_of ts =
        ap (λ (xs : List ℕ). code ++ xs) (code_of-spine n ts ∙ ap (λ (k : ℕ). n ∷ k ∷ codes_of ts) (sym (zero-add (length ts))))
        ∙ sym (append_assoc code (n ∷ []) ((0 + length ts) ∷ codes_of ts)) in
        let left : places ≡ take (length (places ++ length before ∷ []) - 1) (places ++ length before ∷ []) =
        sym (ap (λ (m : ℕ). take m (places ++ length before ∷ [])) (length_last places (length before)) ∙ take-append_seam places (length before ∷ [])) in
        let closed = moved number ws end (λ i. drafted (whole i) (left i)) h in
        let inside = leads_terms es before places 0 [] (sign Close ∷ ws) end (tt, closed) in
        let here = moved number (terms_words es ++ sign Close ∷ ws) end (sym opened) inside in
        (tt, (omega (arith, length-append code (n ∷ 0 ∷ [])), other_words number _ end (sym (append_assoc (terms_words es) (sign Close ∷ []) ws)) here))

    leads_terms : (es : TermList) (before places : List ℕ) (k : ℕ) (behind : List ℕ) (ws : List Word) (end : State)
        → Leads number (within before places (k + length (terms_of number es)) (behind ++ codes_of (terms_of number es))) ws end
        → Leads number (within before places (k + 1) behind) (terms_words es ++ ws) end
    leads_terms (last e) before places k behind ws end h =
        let t = term_of number e in
        let same : before ++ (k + 1) ∷ (behind ++ (code_of t ++ [])) ≡ (before ++ (k + 1) ∷ behind) ++ code_of t =
        ap (λ (xs : List ℕ). before ++ (k + 1) ∷ (behind ++ xs)) (append-nil (code_of t)) ∙ sym (append_assoc before ((k + 1) ∷ behind) (code_of t)) in
        leads_term e (before ++ (k + 1) ∷ behind) (places ++ length before ∷ []) ws end
        (moved number ws end (λ i. drafted (same i) (places ++ length before ∷ [])) h)
    leads_terms (more e es) before places k behind ws end h =
        let t = term_of number e in
        let ts = terms_of number es in
        let same : before ++ (k + 1) ∷ (behind ++ code_of t) ≡ (before ++ (k + 1) ∷ behind) ++ code_of t =
        sym (append_assoc before ((k + 1) ∷ behind) (code_of t)) in
        let count : k + length (t ∷ ts) ≡ (k + 1) + length ts = omega arith in
        let rest : behind ++ (code_of t ++ codes_of ts) ≡ (behind ++ code_of t) ++ codes_of ts = sym (append_assoc behind (code_of t) (codes_of ts)) in
        let others = leads_terms es before places (k + 1) (behind ++ code_of t) ws end
        (moved number ws end (λ i. within before places (count i) (rest i)) h) in
        let comma = moved number (terms_words es ++ ws) end (sym (counted before places (k + 1) (behind ++ code_of t))) others in
        let first = leads_term e (before ++ (k + 1) ∷ behind) (places ++ length before ∷ []) (sign Comma ∷ (terms_words es ++ ws)) end
        (moved number (sign Comma ∷ (terms_words es ++ ws)) end (λ i. drafted (same i) (places ++ length before ∷ []))
        (is_open before places (k + 1) (behind ++ code_of t), comma)) in
        other_words number _ end (sym (append_assoc (term_words e) (sign Comma ∷ terms_words es) ws)) first

  -- the words of a term alone
  pub leads_whole : (e : TermText) (ws : List Word) → ws ≡ term_words e → Leads number (drafted [] []) ws (drafted (code_of (term_of number e)) [])
  leads_whole e ws said =
      other_words number _ (drafted (code_of (term_of number e)) []) (append-nil (term_words e) ∙ sym said)
      (leads_term e [] [] [] (drafted (code_of (term_of number e)) []) refl)
