-- Steps of reading a term from its code.
use Rattle.std.proofs.Common.{◌≡◌, ℕ, zero, suc, ◌+◌, ◌*◌, ◌-◌, ◌<◌, ◌≤◌, List, [], ◌∷◌, ◌++◌, length, length-append, take, drop, refl, sym, ap, ◌∙◌, subst, arith, append-nil, append_assoc}
use Rattle.std.specs.Prelude.{slice_index_or}
use Rattle.cls_base.specs.Terms.{Applicative, component, code_of}
use Rattle.cls_base.specs.Spines.{spine, codes_of}
use Rattle.cls_term.proofs.Codes.{IsCodes-code_of, codes_cancel, code_of-no_prefix}
use Rattle.cls_term.proofs.Spines.{code_of-spine, each_term_is_a_spine, codes_of-append}
use Rattle.cls_term.specs.Decodes.{ArePassed, BeginsWithTerm, BeginsWithTerms}

-- a term's code is a component, a number, and the codes of as many arguments
pub parts : (code : List ℕ) → BeginsWithTerm code → (x k : ℕ) × (tail : List ℕ) × (code ≡ x ∷ k ∷ tail) × BeginsWithTerms k tail
parts code h =
    let s = each_term_is_a_spine h.0 in
    let x = s.0 in
    let es = s.1 in
    let p : code_of h.0 ≡ x ∷ length es ∷ codes_of es = ap code_of (sym s.2) ∙ code_of-spine x es in
    (x, length es, codes_of es ++ h.1, h.2 ∙ ap (λ (w : List ℕ). w ++ h.1) p, (es, h.1, refl, refl))

pub whole : (code tail rest : List ℕ) (x k : ℕ) (es : List Applicative) → code ≡ x ∷ k ∷ tail → length es ≡ k → tail ≡ codes_of es ++ rest → code ≡ code_of (spine (component x) es) ++ rest
whole code tail rest x k es p q t =
    p ∙ (λ i. x ∷ sym q i ∷ t i) ∙ ap (λ (w : List ℕ). w ++ rest) (sym (code_of-spine x es))

pub first_term : (n : ℕ) (code : List ℕ) → BeginsWithTerms (suc n) code → BeginsWithTerm code
first_term n code ([], rest, p, q) = absurd (omega arith)
first_term n code (e ∷ es, rest, p, q) = (e, codes_of es ++ rest, q ∙ append_assoc (code_of e) (codes_of es) rest)

pub next_terms : (n : ℕ) (code after : List ℕ) (t : Applicative) → BeginsWithTerms (suc n) code → code ≡ code_of t ++ after → BeginsWithTerms n after
next_terms n code after t ([], rest, p, q) c = absurd (omega arith)
next_terms n code after t (e ∷ es, rest, p, q) c =
    let s : code_of e ++ (codes_of es ++ rest) ≡ code_of t ++ after = sym (append_assoc (code_of e) (codes_of es) rest) ∙ sym q ∙ c in
    let d = codes_cancel 1 (code_of e) (code_of t) (codes_of es ++ rest) after (IsCodes-code_of e) (IsCodes-code_of t) s in
    (es, rest, omega (arith, p), sym d.1)

pub terms_push : (code rest after : List ℕ) (es : List Applicative) (t : Applicative) → code ≡ codes_of es ++ rest → rest ≡ code_of t ++ after → code ≡ codes_of (es ++ t ∷ []) ++ after
terms_push code rest after es t p q =
    p ∙ ap (λ (w : List ℕ). codes_of es ++ w) q ∙ sym (append_assoc (codes_of es) (code_of t) after)
    ∙ ap (λ (w : List ℕ). w ++ after) (ap (λ (w : List ℕ). codes_of es ++ w) (sym (append-nil (code_of t))) ∙ sym (codes_of-append es (t ∷ [])))

pub alone : (code rest : List ℕ) (e t : Applicative) → code_of e ≡ code → code ≡ code_of t ++ rest → code_of t ≡ code
alone code rest e t p q =
    let n = code_of-no_prefix t e rest (sym q ∙ sym p) in
    sym (append-nil (code_of t)) ∙ ap (λ (w : List ℕ). code_of t ++ w) (sym n) ∙ sym q

take-whole : (n : ℕ) (xs : List ℕ) → length xs ≤ n → take n xs ≡ xs
take-whole zero [] l = refl
take-whole zero (x ∷ xs) l = absurd (omega arith)
take-whole (suc n) [] l = refl
take-whole (suc n) (x ∷ xs) l = ap (λ (ys : List ℕ). x ∷ ys) (take-whole n xs (omega arith))

-- a slice of a code, behind its first two numbers
pub tail-of : (code tail : List ℕ) (x k : ℕ) → code ≡ x ∷ k ∷ tail → take (length code - 2) (drop 2 code) ≡ tail
tail-of code tail x k p =
    let P : List ℕ → Type 0 = λ w. take (length w - 2) (drop 2 w) ≡ tail in
    subst P (sym p) (take-whole (length (x ∷ k ∷ tail) - 2) tail (omega arith))

pub second-of : (code tail : List ℕ) (x k : ℕ) → code ≡ x ∷ k ∷ tail → slice_index_or code 1 0 ≡ k
second-of code tail x k p = ap (λ (w : List ℕ). slice_index_or w 1 0) p

pub first-of : (code tail : List ℕ) (x k : ℕ) → code ≡ x ∷ k ∷ tail → slice_index_or code 0 0 ≡ x
first-of code tail x k p = ap (λ (w : List ℕ). slice_index_or w 0 0) p

pub tail-begins : (code : List ℕ) → BeginsWithTerm code → BeginsWithTerms (slice_index_or code 1 0) (take (length code - 2) (drop 2 code))
tail-begins code h =
    let r = parts code h in
    let P : List ℕ → Type 0 = λ w. BeginsWithTerms (slice_index_or code 1 0) w in
    let Q : ℕ → Type 0 = λ k. BeginsWithTerms k r.2 in
    subst P (sym (tail-of code r.2 r.0 r.1 r.3)) (subst Q (sym (second-of code r.2 r.0 r.1 r.3)) r.4)

pub tail-long : (code : List ℕ) → BeginsWithTerm code → length (take (length code - 2) (drop 2 code)) + 2 ≡ length code
tail-long code h =
    let r = parts code h in
    let a = ap (λ (w : List ℕ). length w) (tail-of code r.2 r.0 r.1 r.3) in
    let b : length code ≡ length (r.0 ∷ r.1 ∷ r.2) = ap (λ (w : List ℕ). length w) r.3 in
    omega (arith, a, b)

pub term-of : (code rest : List ℕ) (es : List Applicative) (t : Applicative) → BeginsWithTerm code → t ≡ spine (component (slice_index_or code 0 0)) es → length es ≡ slice_index_or code 1 0 → take (length code - 2) (drop 2 code) ≡ codes_of es ++ rest → code ≡ code_of t ++ rest
term-of code rest es t h e p q =
    let r = parts code h in
    let P : Applicative → Type 0 = λ u. code ≡ code_of u ++ rest in
    let Q : ℕ → Type 0 = λ x. code ≡ code_of (spine (component x) es) ++ rest in
    subst P (sym e) (subst Q (sym (first-of code r.2 r.0 r.1 r.3)) (whole code r.2 rest r.0 r.1 es r.3 (p ∙ second-of code r.2 r.0 r.1 r.3) (sym (tail-of code r.2 r.0 r.1 r.3) ∙ q)))

pub some-term : (m : ℕ) (code : List ℕ) → 0 < m → BeginsWithTerms m code → BeginsWithTerm code
some-term zero code l h = absurd (omega arith)
some-term (suc n) code l h = first_term n code h

pub fewer-terms : (m k : ℕ) (code after : List ℕ) (t : Applicative) → m ≡ k + 1 → BeginsWithTerms m code → code ≡ code_of t ++ after → BeginsWithTerms k after
fewer-terms m k code after t p h c =
    let e : m ≡ suc k = omega (arith, p) in
    let P : ℕ → Type 0 = λ j. BeginsWithTerms j code in
    next_terms k code after t (subst P e h) c

pub after-shorter : (code after : List ℕ) (t : Applicative) → code ≡ code_of t ++ after → length after ≤ length code
after-shorter code after t p = let a = ap (λ (w : List ℕ). length w) p in omega (arith, a, length-append (code_of t) after)

-- So many terms were to be passed, and so many are left, or their arguments, whose codes begin the rest.
pub record IsPassing (count : ℕ) (code : List ℕ) (left : ℕ) (rest : List ℕ) : Type 0 where
  pub terms : List Applicative
  pub others : List Applicative
  pub tail : List ℕ
  pub many : length terms ≡ count
  pub begins : code ≡ codes_of terms ++ tail
  pub fewer : length others ≡ left
  pub begun : rest ≡ codes_of others ++ tail
  pub shorter : length rest ≤ length code

two-each : (es : List Applicative) → 2 * length es ≤ length (codes_of es)
two-each [] = omega arith
two-each (e ∷ es) = omega (arith, two-each es, length-append (code_of e) (codes_of es))

pub passing-first : (count : ℕ) (code : List ℕ) → BeginsWithTerms count code → IsPassing count code count code
passing-first count code (es, tail, p, q) = record { terms = es; others = es; tail = tail; many = p; begins = q; fewer = p; begun = q; shorter = omega arith }

pub passing-room : (count left : ℕ) (code rest : List ℕ) → IsPassing count code left rest → 2 * left ≤ length rest
passing-room count left code rest h =
    omega (arith, h.fewer, two-each h.others, length-append (codes_of h.others) h.tail, ap (λ (w : List ℕ). length w) h.begun)

pub passing-last : (count : ℕ) (code rest : List ℕ) → IsPassing count code 0 rest → ArePassed count code rest
passing-last count code rest h =
    (elim h.others as (λ es. length es ≡ 0 → rest ≡ codes_of es ++ h.tail → ArePassed count code rest) [
      | [] ↦ λ p q. (h.terms, h.many, h.begins ∙ ap (λ (w : List ℕ). codes_of h.terms ++ w) (sym q))
      | e ∷ es ↦ λ p q. absurd (omega (arith, p))
    ]) h.fewer h.begun

passing-step : (count left : ℕ) (code rest : List ℕ) → IsPassing count code (suc left) rest → IsPassing count code (left + slice_index_or rest 1 0) (take (length rest - 2) (drop 2 rest))
passing-step count left code rest h =
    (elim h.others as (λ es. length es ≡ suc left → rest ≡ codes_of es ++ h.tail → IsPassing count code (left + slice_index_or rest 1 0) (take (length rest - 2) (drop 2 rest))) [
      | [] ↦ λ p q. absurd (omega (arith, p))
      | e ∷ es ↦ λ p q.
          let s = each_term_is_a_spine e in
          let x = s.0 in
          let args = s.1 in
          let t : rest ≡ x ∷ length args ∷ (codes_of args ++ (codes_of es ++ h.tail)) =
          q ∙ append_assoc (code_of e) (codes_of es) h.tail
          ∙ ap (λ (w : List ℕ). w ++ (codes_of es ++ h.tail)) (ap code_of (sym s.2) ∙ code_of-spine x args) in
          record {
            terms = h.terms;
            others = args ++ es;
            tail = h.tail;
            many = h.many;
            begins = h.begins;
            fewer = omega (arith, length-append args es, p, second-of rest (codes_of args ++ (codes_of es ++ h.tail)) x (length args) t);
            begun = tail-of rest (codes_of args ++ (codes_of es ++ h.tail)) x (length args) t ∙ sym (append_assoc (codes_of args) (codes_of es) h.tail) ∙ ap (λ (w : List ℕ). w ++ h.tail) (sym (codes_of-append args es));
            shorter = omega (arith, h.shorter, ap (λ (w : List ℕ). length w) t, ap (λ (w : List ℕ). length w) (tail-of rest (codes_of args ++ (codes_of es ++ h.tail)) x (length args) t));
          }
    ]) h.fewer h.begun

pub passing-next : (count left : ℕ) (code rest : List ℕ) → 0 < left → IsPassing count code left rest → IsPassing count code (left - 1 + slice_index_or rest 1 0) (take (length rest - 2) (drop 2 rest))
passing-next count zero code rest l h = absurd (omega arith)
passing-next count (suc left) code rest l h =
    let P : ℕ → Type 0 = λ k. IsPassing count code (k + slice_index_or rest 1 0) (take (length rest - 2) (drop 2 rest)) in
    let e : left ≡ suc left - 1 = omega arith in
    subst P e (passing-step count left code rest h)
