-- Of openings that rise and have all that are wanted, each is the earliest after the one before it.
use Rattle.std.proofs.Common.{◌≡◌, ℕ, zero, suc, ◌+◌, ◌-◌, ◌<◌, ◌≤◌, List, length, sym, ap, ◌∙◌, subst, inl, inr, arith}
use Rattle.std.specs.Prelude.{Option, None, Some}
use Rattle.std.proofs.lemmas.Bool.{cases_lt}
use Rattle.cls_walk.specs.Openings.{AreRising, IsAtMost, IsBelow, IsDone, IsEarliest, IsGathered}
use Rattle.cls_walk.specs.declared.opening.Opening.{Opening}
use Rattle.cls_walk.proofs.Openings.{below-done, below-most}
use Rattle.cls_walk.proofs.PutOffers.{at}

-- the last of so many openings from the first one on
abbrev last_of : ℕ → List Opening → ℕ → Option Opening
last_of first os zero = None
last_of first os (suc n) = Some (at os (first + n))

-- the opening before this place, where the openings begin with the first one
abbrev pub opening_before : ℕ → List Opening → ℕ → Option Opening
opening_before first os i = last_of first os (i - first)

pub before-first : (first : ℕ) (os : List Opening) → opening_before first os first ≡ None
before-first first os = let e : first - first ≡ 0 = omega arith in ap (λ (z : ℕ). last_of first os z) e

pub before-next : (first : ℕ) (os : List Opening) (i : ℕ) → first ≤ i → opening_before first os (i + 1) ≡ Some (at os i)
before-next first os i l =
    let e : (i + 1) - first ≡ suc (i - first) = omega (arith, l) in
    let s : first + (i - first) ≡ i = omega (arith, l) in
    ap (λ (z : ℕ). last_of first os z) e ∙ ap (λ (z : ℕ). Some (at os z)) s

below-here : (o : Opening) (x k : ℕ) (p : Opening) → p.component ≡ x → p.count ≡ k → IsBelow o p.component p.count → IsAtMost o x k
below-here o x k p c n b =
    let P : ℕ → Type 0 = λ z. IsAtMost o z p.count in
    let Q : ℕ → Type 0 = λ z. IsAtMost o x z in
    subst Q n (subst P c (below-most o p.component p.count b))

done-below : (o : Opening) (x k : ℕ) (p : Opening) → p.component ≡ x → p.count ≡ k → IsBelow p o.component o.count → IsDone (Some o) x k
done-below o x k p c n (inl b) = inl (omega (arith, b, c))
done-below o x k p c n (inr b) = inr (sym c ∙ b.0, (let m = b.1 in omega (arith, m, n)))

module _ (Wanted : ℕ → ℕ → Type 0) (first : ℕ) (os : List Opening) (rising : AreRising first os) (all : (x k : ℕ) → Wanted x k → IsGathered first os x k) where
  -- those from a place on aren't earlier, and those up to it aren't later
  not-earlier : (x k : ℕ) (g : IsGathered first os x k) (i : ℕ) → first ≤ i → i ≤ g.place → IsAtMost (at os i) x k
  not-earlier x k g i f l = elim (cases_lt i g.place) [
    | inl m ↦ below-here (at os i) x k (at os g.place) g.component g.count (rising i g.place f m g.within)
    | inr m ↦
        let e : g.place ≡ i = omega (arith, l, m) in
        let c = ap (λ (z : ℕ). (at os z).component) (sym e) ∙ g.component in
        let n = ap (λ (z : ℕ). (at os z).count) (sym e) ∙ g.count in
        inr (c, omega (arith, n))
  ]

  not-later : (x k : ℕ) (g : IsGathered first os x k) (i : ℕ) → g.place ≤ i → i < length os → IsDone (Some (at os i)) x k
  not-later x k g i l w = elim (cases_lt g.place i) [
    | inl m ↦ done-below (at os i) x k (at os g.place) g.component g.count (rising g.place i g.from m w)
    | inr m ↦
        let e : g.place ≡ i = omega (arith, l, m) in
        let c = ap (λ (z : ℕ). (at os z).component) (sym e) ∙ g.component in
        let n = ap (λ (z : ℕ). (at os z).count) (sym e) ∙ g.count in
        inr (sym c, omega (arith, n))
  ]

  earliest-at : (n : ℕ) → first + n < length os → IsEarliest Wanted (last_of first os n) (Some (at os (first + n)))
  earliest-at zero l = record { after = tt; reached = λ x k w a. let g = all x k w in not-earlier x k g (first + zero) (omega arith) (let f = g.from in omega (arith, f)) }
  earliest-at (suc n) l = record {
    after = rising (first + n) (first + suc n) (omega arith) (omega arith) l;
    reached = λ x k w a.
        let g = all x k w in
        elim (cases_lt g.place (first + suc n)) [
          | inl m ↦ absurd (below-done (at os (first + n)) x k a (not-later x k g (first + n) (omega (arith, m)) (omega (arith, l))))
          | inr m ↦ not-earlier x k g (first + suc n) (omega arith) m
        ];
  }

  none-after : (n : ℕ) → length os ≡ first + n → IsEarliest Wanted (last_of first os n) None
  none-after zero l = record { after = tt; reached = λ x k w a. let g = all x k w in let f = g.from in let m = g.within in absurd (omega (arith, f, m, l)) }
  none-after (suc n) l = record {
    after = tt;
    reached = λ x k w a.
        let g = all x k w in
        let m = g.within in
        absurd (below-done (at os (first + n)) x k a (not-later x k g (first + n) (omega (arith, m, l)) (omega (arith, l))));
  }

  pub earliest-next : (i : ℕ) → first ≤ i → i < length os → IsEarliest Wanted (opening_before first os i) (Some (at os i))
  earliest-next i f l =
      let e : first + (i - first) ≡ i = omega (arith, f) in
      let P : ℕ → Type 0 = λ z. IsEarliest Wanted (opening_before first os i) (Some (at os z)) in
      subst P e (earliest-at (i - first) (omega (arith, f, l)))

  pub earliest-none : (i : ℕ) → first ≤ i → length os ≡ i → IsEarliest Wanted (opening_before first os i) None
  earliest-none i f l = none-after (i - first) (omega (arith, f, l))
