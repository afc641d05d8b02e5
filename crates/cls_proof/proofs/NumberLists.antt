-- Numerals that are read one after another.
use Rattle.std.proofs.Common.{◌≡◌, ℕ, ◌<◌, ◌^◌, List, [], ◌∷◌, ◌++◌, refl, ap, sym, ◌∙◌, subst, arith, append_assoc, append-nil}
use Rattle.cls_lexer.specs.Numerals.{number_value}
use Rattle.cls_proof.specs.Reading.{IsNumber, AreNumbers}

pub in_range : (digits : List ℕ) (n : ℕ) → number_value digits < 2 ^ 32 → n ≡ number_value digits → IsNumber digits n
in_range digits n l e = (sym e, omega (arith, l, e))

-- the numbers up to here, and those that are left
module _ (full rest others : List (List ℕ)) (digits : List ℕ) (e : rest ≡ digits ∷ others) where
  pub read_next : (items new : List ℕ) (n : ℕ) → new ≡ items ++ n ∷ [] → IsNumber digits n → ((ns : List ℕ) → AreNumbers rest ns → AreNumbers full (items ++ ns)) → (ns : List ℕ) → AreNumbers others ns → AreNumbers full (new ++ ns)
  read_next items new n f is r ns h =
      let next : AreNumbers rest (n ∷ ns) = subst (λ (ds : List (List ℕ)). AreNumbers ds (n ∷ ns)) (sym e) (n, ns, is, h, refl) in
      let same : items ++ (n ∷ ns) ≡ new ++ ns = sym (ap (λ (ms : List ℕ). ms ++ ns) f ∙ append_assoc items (n ∷ []) ns) in
      subst (λ (ms : List ℕ). AreNumbers full ms) same (r (n ∷ ns) next)

  pub left_next : ((ns : List ℕ) → AreNumbers full ns → (ms : List ℕ) × AreNumbers rest ms) → (ns : List ℕ) → AreNumbers full ns → (ms : List ℕ) × AreNumbers others ms
  left_next l ns h =
      let p = l ns h in
      let q = subst (λ (ds : List (List ℕ)). AreNumbers ds p.0) e p.1 in
      (q.1, q.3)

  pub over_limit : (number_value digits < 2 ^ 32 → ⊥) → ((ns : List ℕ) → AreNumbers full ns → (ms : List ℕ) × AreNumbers rest ms) → (ns : List ℕ) → AreNumbers full ns → ⊥
  over_limit over l ns h =
      let p = l ns h in
      let q = subst (λ (ds : List (List ℕ)). AreNumbers ds p.0) e p.1 in
      let value = q.2.0 in
      let within = q.2.1 in
      over (omega (arith, value, within))

pub read_all : (full rest : List (List ℕ)) (items : List ℕ) → rest ≡ [] → ((ns : List ℕ) → AreNumbers rest ns → AreNumbers full (items ++ ns)) → AreNumbers full items
read_all full rest items e r = subst (λ (ms : List ℕ). AreNumbers full ms) (append-nil items) (r [] (subst (λ (ds : List (List ℕ)). AreNumbers ds []) (sym e) refl))

pub read_first : (full : List (List ℕ)) (items : List ℕ) → items ≡ [] → (ns : List ℕ) → AreNumbers full ns → AreNumbers full (items ++ ns)
read_first full items e ns h = subst (λ (ms : List ℕ). AreNumbers full (ms ++ ns)) (sym e) h

pub ruleset number_lists = (in_range, read_next, left_next, over_limit, read_all, read_first)
