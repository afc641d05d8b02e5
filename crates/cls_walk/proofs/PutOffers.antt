-- Openings are put in their places.
use Rattle.std.proofs.Common.{◌≡◌, ℕ, ◌+◌, ◌-◌, ◌<◌, ◌≤◌, List, ◌∷◌, length, take, drop, get_or, refl, sym, ap, ◌∙◌, subst, inl, inr, arith}
use Rattle.std.specs.List.{insert}
use Rattle.std.proofs.lemmas.Bool.{cases_lt}
use Rattle.std.proofs.lemmas.List.{length-take-le, take-append-drop, take-append-le}
use Rattle.std.proofs.lemmas.List.Edits.{get_or-insert_above, get_or-insert_at, get_or-insert_below, length-insert}
use Rattle.cls_walk.specs.Openings.{no_opening, AreRising, ArePut, IsAtMost, IsBelow, IsGathered}
use Rattle.cls_walk.specs.declared.opening.Opening.{Opening}
use Rattle.cls_walk.proofs.Openings.{below-most, below-then, most-below}

abbrev pub at : List Opening → ℕ → Opening
at os i = get_or os i no_opening

-- the same for equal openings
below-same : (a b c d : Opening) → c ≡ a → d ≡ b → IsBelow a b.component b.count → IsBelow c d.component d.count
below-same a b c d e f h =
    let P : Opening → Type 0 = λ z. IsBelow z b.component b.count in
    let Q : Opening → Type 0 = λ z. IsBelow c z.component z.count in
    subst Q (sym f) (subst P (sym e) h)

gathered-same : (first i : ℕ) (os : List Opening) (a : Opening) (x k : ℕ) → first ≤ i → i < length os → at os i ≡ a → a.component ≡ x → a.count ≡ k → IsGathered first os x k
gathered-same first i os a x k f l e c n = record {
  place = i;
  from = f;
  within = l;
  component = ap (λ (z : Opening). z.component) e ∙ c;
  count = ap (λ (z : Opening). z.count) e ∙ n;
}

pub put-none : (first : ℕ) (os : List Opening) → first ≤ length os → AreRising first os → ArePut first os os
put-none first os l r = record { within = l; before = refl; rising = r; kept = λ x k g. g }

pub put-then : (first : ℕ) (a b c : List Opening) → ArePut first a b → ArePut first b c → ArePut first a c
put-then first a b c g h = record { within = h.within; before = h.before ∙ g.before; rising = h.rising; kept = λ x k m. h.kept x k (g.kept x k m) }

module _ (first : ℕ) (os : List Opening) (rising : AreRising first os) (o : Opening) where
  -- those before a place are before the opening, and so are those up to one that is
  pub before-half : (middle : ℕ) → middle < length os → IsBelow (at os middle) o.component o.count → (i : ℕ) → first ≤ i → i < middle + 1 → IsBelow (at os i) o.component o.count
  before-half middle l b i f m = elim (cases_lt i middle) [
    | inl n ↦ below-then (at os i) (at os middle) o.component o.count (rising i middle f n l) b
    | inr n ↦
        let e : middle ≡ i = omega (arith, m, n) in
        let P : ℕ → Type 0 = λ z. IsBelow (at os z) o.component o.count in
        subst P e b
  ]

  pub from-half : (middle : ℕ) → first ≤ middle → IsAtMost o (at os middle).component (at os middle).count → (i : ℕ) → middle ≤ i → i < length os → IsAtMost o (at os i).component (at os i).count
  from-half middle f b i m l = elim (cases_lt middle i) [
    | inl n ↦ below-most o (at os i).component (at os i).count (most-below o (at os middle) (at os i).component (at os i).count b (rising middle i f n l))
    | inr n ↦
        let e : middle ≡ i = omega (arith, m, n) in
        let P : ℕ → Type 0 = λ z. IsAtMost o (at os z).component (at os z).count in
        subst P e b
  ]

  -- at a place that is after those before it, and before those from it on
  module _ (p : ℕ) (from : first ≤ p) (within : p ≤ length os) (before : (i : ℕ) → first ≤ i → i < p → IsBelow (at os i) o.component o.count) (behind : p < length os → IsBelow o (at os p).component (at os p).count) where
    after : (i : ℕ) → p ≤ i → i < length os → IsBelow o (at os i).component (at os i).count
    after i m l = elim (cases_lt p i) [
      | inl n ↦ below-then o (at os p) (at os i).component (at os i).count (behind (omega (arith, n, l))) (rising p i from n l)
      | inr n ↦
          let e : p ≡ i = omega (arith, m, n) in
          let P : ℕ → Type 0 = λ z. z < length os → IsBelow o (at os z).component (at os z).count in
          subst P e behind l
    ]

    abbrev new : List Opening
    new = insert os p o

    long : length new ≡ length os + 1
    long = length-insert os p o within

    old-at : (i : ℕ) → i < p → at new i ≡ at os i
    old-at i l = get_or-insert_below os p o no_opening i l within

    new-at : (i : ℕ) → i ≡ p → at new i ≡ o
    new-at i e = ap (λ (z : ℕ). at new z) e ∙ get_or-insert_at os p o no_opening within

    next-at : (i : ℕ) → p < i → at new i ≡ at os (i - 1)
    next-at i l =
        let e : i ≡ (i - 1) + 1 = omega (arith, l) in
        ap (λ (z : ℕ). at new z) e ∙ get_or-insert_above os p o no_opening (i - 1) (omega (arith, l)) within

    rises : AreRising first new
    rises i j f m l =
        let n = long in
        elim (cases_lt j p) [
          | inl a ↦ below-same (at os i) (at os j) (at new i) (at new j) (old-at i (omega (arith, m, a))) (old-at j a) (rising i j f m (omega (arith, a, within)))
          | inr a ↦ elim (cases_lt p j) [
            | inr b ↦ below-same (at os i) o (at new i) (at new j) (old-at i (omega (arith, m, b))) (new-at j (omega (arith, a, b))) (before i f (omega (arith, m, b)))
            | inl b ↦ elim (cases_lt i p) [
              | inl d ↦ below-same (at os i) (at os (j - 1)) (at new i) (at new j) (old-at i d) (next-at j b) (rising i (j - 1) f (omega (arith, d, b)) (omega (arith, b, l, n)))
              | inr d ↦ elim (cases_lt p i) [
                | inr e ↦ below-same o (at os (j - 1)) (at new i) (at new j) (new-at i (omega (arith, d, e))) (next-at j b) (after (j - 1) (omega (arith, b)) (omega (arith, b, l, n)))
                | inl e ↦ below-same (at os (i - 1)) (at os (j - 1)) (at new i) (at new j) (next-at i e) (next-at j b) (rising (i - 1) (j - 1) (omega (arith, from, e)) (omega (arith, m, e)) (omega (arith, b, l, n)))
              ]
            ]
          ]
        ]

    kept : (x k : ℕ) → IsGathered first os x k → IsGathered first new x k
    kept x k g =
        let n = long in
        let i = g.place in
        let f = g.from in
        let l = g.within in
        elim (cases_lt i p) [
          | inl a ↦ gathered-same first i new (at os i) x k f (omega (arith, l, n)) (old-at i a) g.component g.count
          | inr a ↦ gathered-same first (i + 1) new (at os i) x k (omega (arith, f)) (omega (arith, l, n)) (get_or-insert_above os p o no_opening i a within) g.component g.count
        ]

    pub put-at : ArePut first os new
    put-at = record {
      within = let n = long in omega (arith, n, from, within);
      before =
          let m = length-take-le p os within in
          let f : first ≤ length (take p os) = omega (arith, from, m) in
          take-append-le first (take p os) (o ∷ drop p os) f ∙ sym (take-append-le first (take p os) (drop p os) f)
          ∙ ap (λ (xs : List Opening). take first xs) (take-append-drop p os);
      rising = rises;
      kept = kept;
    }

    pub here-at : IsGathered first new o.component o.count
    here-at = let n = long in gathered-same first p new o o.component o.count from (omega (arith, n, within)) (new-at p refl) refl refl
