-- Columns of places that are gone through, and such as grow.
use Rattle.std.proofs.Common.{◌≡◌, ℕ, true, false, zero, suc, ◌+◌, ◌<◌, ◌≤◌, List, [], ◌∷◌, ◌++◌, length, map, take, get_or, refl, sym, ap, ◌∙◌, subst, inl, inr, arith}
use Rattle.std.specs.Prelude.{◌⊎◌}
use Rattle.cls_base.specs.declared.rule.Rule.{Rule}
use Rattle.cls_base.specs.declared.rule.Rule.TheVariants.{Any}
use Rattle.cls_base.specs.Languages.{NodeRule}
use Rattle.cls_enum.specs.Members.{IsIn}
use Rattle.cls_enum.proofs.Members.{in_cases, in_left, in_right, take-whole}
use Rattle.cls_walk.specs.Frames.{Place as SeenPlace, pairs_from}
use Rattle.cls_walk.specs.FrameColumns.{place_of, made_of, Grows, IsPassed, IsFollowed, AreFollowed}
use Rattle.cls_walk.specs.declared.places.Place.{Place}
use Rattle.cls_walk.specs.declared.rules.Made.{Made}
use Rattle.cls_walk.proofs.FrameSteps.{pairs-in, in-pairs}

next-to : {A B : Type 0} (f : A → B) (xs : List A) (i : ℕ) (d : A) (q : B) → i < length xs → IsIn (map f (take (suc i) xs)) q → IsIn (map f (take i xs)) q ⊎ (f (get_or xs i d) ≡ q)
next-to f [] i d q l n = absurd (omega arith)
next-to f (x ∷ xs) zero d q l (inl e) = inr e
next-to f (x ∷ xs) zero d q l (inr n) = inl n
next-to f (x ∷ xs) (suc i) d q l (inl e) = inl (inl e)
next-to f (x ∷ xs) (suc i) d q l (inr n) = elim (next-to f xs i d q (omega arith) n) [ inl m ↦ inl (inr m) | inr e ↦ inr e ]

next-old : {A B : Type 0} (f : A → B) (xs : List A) (i : ℕ) (q : B) → IsIn (map f (take i xs)) q → IsIn (map f (take (suc i) xs)) q
next-old f [] zero q n = absurd n
next-old f [] (suc i) q n = absurd n
next-old f (x ∷ xs) zero q n = absurd n
next-old f (x ∷ xs) (suc i) q (inl e) = inl e
next-old f (x ∷ xs) (suc i) q (inr n) = inr (next-old f xs i q n)

next-new : {A B : Type 0} (f : A → B) (xs : List A) (i : ℕ) (d : A) → i < length xs → IsIn (map f (take (suc i) xs)) (f (get_or xs i d))
next-new f [] i d l = absurd (omega arith)
next-new f (x ∷ xs) zero d l = inl refl
next-new f (x ∷ xs) (suc i) d l = inr (next-new f xs i d (omega arith))

one-more : (i : ℕ) → suc i ≡ i + 1
one-more i = omega arith

-- one more of those that are gone through
pub more-to : {A B : Type 0} (f : A → B) (xs : List A) (i : ℕ) (d : A) (q : B) → i < length xs → IsIn (map f (take (i + 1) xs)) q → IsIn (map f (take i xs)) q ⊎ (f (get_or xs i d) ≡ q)
more-to f xs i d q l n = next-to f xs i d q l (let P : ℕ → Type 0 = λ k. IsIn (map f (take k xs)) q in subst P (sym (one-more i)) n)

pub more-old : {A B : Type 0} (f : A → B) (xs : List A) (i : ℕ) (q : B) → IsIn (map f (take i xs)) q → IsIn (map f (take (i + 1) xs)) q
more-old f xs i q n = let P : ℕ → Type 0 = λ k. IsIn (map f (take k xs)) q in subst P (one-more i) (next-old f xs i q n)

pub more-new : {A B : Type 0} (f : A → B) (xs : List A) (i : ℕ) (d : A) → i < length xs → IsIn (map f (take (i + 1) xs)) (f (get_or xs i d))
more-new f xs i d l = let P : ℕ → Type 0 = λ k. IsIn (map f (take k xs)) (f (get_or xs i d)) in subst P (one-more i) (next-new f xs i d l)

pub apart : true ≡ false → ⊥
apart e = absurd (cc)

-- places and pairs of nodes that stand for none
abbrev pub no-place : Place
no-place = record { node = 0; rest = record { ref_ptr = (0, 0); now = [] } }

abbrev pub no-made : Made
no-made = record { argument = 0; node = 0 }

pub none-left : (xs : List ℕ) → length xs ≡ 0 → xs ≡ []
none-left [] e = refl
none-left (x ∷ xs) e = absurd (omega arith)

place-same : (p : Place) (n : ℕ) → p.node ≡ n → length p.rest.now ≡ 0 → place_of p ≡ (n, [])
place-same p n e l = λ i. (e i, none-left p.rest.now l i)

pub place-at : (places : List Place) (i : ℕ) (d : Place) (q : SeenPlace) → i < length places → place_of (get_or places i d) ≡ q → IsIn (map place_of places) q
place-at [] i d q l e = absurd (omega arith)
place-at (p ∷ ps) zero d q l e = inl e
place-at (p ∷ ps) (suc i) d q l e = inr (place-at ps i d q (omega arith) e)

pub found : (places : List Place) (i : ℕ) (d : Place) (n : ℕ) → i < length places → (get_or places i d).node ≡ n → length (get_or places i d).rest.now ≡ 0 → IsIn (map place_of places) (n, [])
found places i d n l e r = place-at places i d (n, []) l (place-same (get_or places i d) n e r)

pub not-found : (places : List Place) (i : ℕ) (d : Place) (n : ℕ) → i < length places → (IsIn (map place_of (take i places)) (n, []) → ⊥) → ((get_or places i d).node ≡ n → length (get_or places i d).rest.now ≡ 0 → ⊥) → IsIn (map place_of (take (i + 1) places)) (n, []) → ⊥
not-found places i d n l f g m = elim (more-to place_of places i d (n, []) l m) [
  | inl o ↦ f o
  | inr e ↦ g (ap (λ (p : SeenPlace). p.0) e) (ap (λ (p : SeenPlace). length p.1) e)
]

map-append : (xs ys : List Place) → map place_of (xs ++ ys) ≡ map place_of xs ++ map place_of ys
map-append [] ys = refl
map-append (x ∷ xs) ys = ap (λ (zs : List SeenPlace). place_of x ∷ zs) (map-append xs ys)

-- nothing comes to the others
pub grows-none : (P : SeenPlace → Type 0) (old new : List Place) → new ≡ old → ((q : SeenPlace) → P q → IsIn (map place_of old) q) → Grows P old new
grows-none P old new e f =
    let Q : List Place → Type 0 = λ zs. Grows P old zs in
    subst Q (sym e) record { kept = λ q i. i; each = λ q i. inl i; all = f }

-- one place does
pub grows-push : (P : SeenPlace → Type 0) (old new : List Place) (p : Place) → new ≡ old ++ p ∷ [] → P (place_of p) → ((q : SeenPlace) → P q → place_of p ≡ q) → Grows P old new
grows-push P old new p e h f =
    let Q : List Place → Type 0 = λ zs. Grows P old zs in
    let seen = map place_of old in
    let m = map-append old (p ∷ []) in
    subst Q (sym e) record {
      kept = λ q i. let R : List SeenPlace → Type 0 = λ zs. IsIn zs q in subst R (sym m) (in_left seen (place_of p ∷ []) q i);
      each = λ q i.
          let R : List SeenPlace → Type 0 = λ zs. IsIn zs q in
          elim (in_cases seen (place_of p ∷ []) q (subst R m i)) [
            | inl j ↦ inl j
            | inr (inl k) ↦ inr (subst P k h)
            | inr (inr k) ↦ absurd k
          ];
      all = λ q i. let R : List SeenPlace → Type 0 = λ zs. IsIn zs q in subst R (sym m) (in_right seen (place_of p ∷ []) q (inl (f q i)));
    }

-- first these and then those
pub grows-on : (P Q R : SeenPlace → Type 0) (a b c : List Place) → Grows P a b → Grows Q b c → ((q : SeenPlace) → P q → R q) → ((q : SeenPlace) → Q q → R q) → ((q : SeenPlace) → R q → P q ⊎ Q q) → Grows R a c
grows-on P Q R a b c g h f k s = record {
  kept = λ q i. h.kept q (g.kept q i);
  each = λ q i. elim (h.each q i) [
    | inl j ↦ elim (g.each q j) [ inl m ↦ inl m | inr m ↦ inr (f q m) ]
    | inr j ↦ inr (k q j)
  ];
  all = λ q i. elim (s q i) [ inl j ↦ h.kept q (g.all q j) | inr j ↦ h.all q j ];
}

-- the same places by another condition
pub grows-by : (P Q : SeenPlace → Type 0) (a b : List Place) → ((q : SeenPlace) → P q → Q q) → ((q : SeenPlace) → Q q → P q) → Grows P a b → Grows Q a b
grows-by P Q a b f k g = record {
  kept = g.kept;
  each = λ q i. elim (g.each q i) [ inl j ↦ inl j | inr j ↦ inr (f q j) ];
  all = λ q i. g.all q (k q i);
}

module _ (above : List SeenPlace) (mades : List Made) where
  pub passed-none : (a : List Place) → Grows (IsPassed [] above) a a
  passed-none a = record { kept = λ q i. i; each = λ q i. inl i; all = λ q (d, i, o, e). absurd i }

  passed-old : (i : ℕ) (q : SeenPlace) → IsPassed (map made_of (take i mades)) above q → IsPassed (map made_of (take (i + 1) mades)) above q
  passed-old i q (d, n, o, e) = (d, more-old made_of mades i d n, o, e)

  -- a pair whose argument is whole, and one whose argument isn't
  pub passed-in : (i : ℕ) (a b c : List Place) → i < length mades → Grows (IsPassed (map made_of (take i mades)) above) a b → IsIn above ((get_or mades i no-made).argument, []) → Grows (λ q. q ≡ ((get_or mades i no-made).node, [])) b c → Grows (IsPassed (map made_of (take (i + 1) mades)) above) a c
  passed-in i a b c l g h k =
      let d = get_or mades i no-made in
      grows-on (IsPassed (map made_of (take i mades)) above) (λ q. q ≡ (d.node, [])) (IsPassed (map made_of (take (i + 1) mades)) above) a b c g k (passed-old i)
      (λ q e. (made_of d, more-new made_of mades i no-made l, h, e))
      (λ q (m, n, o, e). elim (more-to made_of mades i no-made m l n) [
        | inl j ↦ inl (m, j, o, e)
        | inr j ↦ inr (e ∙ ap (λ (p : ℕ × ℕ). (p.1, [])) (sym j))
      ])

  pub passed-out : (i : ℕ) (a b : List Place) → i < length mades → Grows (IsPassed (map made_of (take i mades)) above) a b → (IsIn above ((get_or mades i no-made).argument, []) → ⊥) → Grows (IsPassed (map made_of (take (i + 1) mades)) above) a b
  passed-out i a b l g h =
      grows-by (IsPassed (map made_of (take i mades)) above) (IsPassed (map made_of (take (i + 1) mades)) above) a b (passed-old i)
      (λ q (m, n, o, e). elim (more-to made_of mades i no-made m l n) [
        | inl j ↦ (m, j, o, e)
        | inr j ↦ let P : ℕ × ℕ → Type 0 = λ p. IsIn above (p.0, []) in absurd (h (subst P (sym j) o))
      ]) g

  pub passed-all : (i : ℕ) (a b : List Place) → length mades ≤ i → Grows (IsPassed (map made_of (take i mades)) above) a b → Grows (IsPassed (map made_of mades) above) a b
  passed-all i a b l g = let P : List Made → Type 0 = λ ms. Grows (IsPassed (map made_of ms) above) a b in subst P (take-whole i mades l) g

module _ (book : List (List (Rule ℕ))) (above : List SeenPlace) where
  -- a place without further nodes is followed by what pairs make
  pub followed-pairs : (mades : List Made) (l : ℕ) (a b : List Place) → map made_of mades ≡ pairs_from book l → Grows (IsPassed (map made_of mades) above) a b → Grows (IsFollowed book above (l, [])) a b
  followed-pairs mades l a b e g =
      let P : List (ℕ × ℕ) → Type 0 = λ ms. Grows (IsPassed ms above) a b in
      grows-by (IsPassed (pairs_from book l) above) (IsFollowed book above (l, [])) a b
      (λ q (d, i, o, s).
      let R : ℕ → Type 0 = λ k. NodeRule book k (Any l d.0) in
      (d.0, o, (subst R (sym (ap (λ (p : SeenPlace). p.0) s)) (in-pairs book l d i), ap (λ (p : SeenPlace). p.1) s)))
      (λ q (m, o, r). ((m, q.0), pairs-in book q.0 l m r.0, o, λ i. (q.0, r.1 i)))
      (subst P e g)

  pub followed-in : (l n : ℕ) (rest : List ℕ) (a b : List Place) (p : Place) → b ≡ a ++ p ∷ [] → place_of p ≡ (l, rest) → IsIn above (n, []) → Grows (IsFollowed book above (l, n ∷ rest)) a b
  followed-in l n rest a b p e s i = grows-push (IsFollowed book above (l, n ∷ rest)) a b p e (n, i, (refl, s)) (λ q (m, o, r). s ∙ sym r.1)

  pub followed-out : (l n : ℕ) (rest : List ℕ) (a b : List Place) → b ≡ a → (IsIn above (n, []) → ⊥) → Grows (IsFollowed book above (l, n ∷ rest)) a b
  followed-out l n rest a b e f =
      grows-none (IsFollowed book above (l, n ∷ rest)) a b e
      (λ q (m, o, r). let P : ℕ → Type 0 = λ z. IsIn above (z, []) in absurd (f (subst P (sym r.0) o)))

  pub follows-none : (a : List Place) → Grows (AreFollowed book above []) a a
  follows-none a = record { kept = λ q i. i; each = λ q i. inl i; all = λ q (p, i, r). absurd i }

  pub follows-more : (olds : List Place) (i : ℕ) (a b c : List Place) → i < length olds → Grows (AreFollowed book above (map place_of (take i olds))) a b → Grows (IsFollowed book above (place_of (get_or olds i no-place))) b c → Grows (AreFollowed book above (map place_of (take (i + 1) olds))) a c
  follows-more olds i a b c l g h =
      let p = get_or olds i no-place in
      grows-on (AreFollowed book above (map place_of (take i olds))) (IsFollowed book above (place_of p)) (AreFollowed book above (map place_of (take (i + 1) olds))) a b c g h
      (λ q (z, j, r). (z, more-old place_of olds i z j, r))
      (λ q r. (place_of p, more-new place_of olds i no-place l, r))
      (λ q (z, j, r). elim (more-to place_of olds i no-place z l j) [
        | inl k ↦ inl (z, k, r)
        | inr k ↦ let P : SeenPlace → Type 0 = λ y. IsFollowed book above y q in inr (subst P (sym k) r)
      ])

  pub follows-all : (olds : List Place) (i : ℕ) (a b : List Place) → length olds ≤ i → Grows (AreFollowed book above (map place_of (take i olds))) a b → Grows (AreFollowed book above (map place_of olds)) a b
  follows-all olds i a b l g = let P : List Place → Type 0 = λ ps. Grows (AreFollowed book above (map place_of ps)) a b in subst P (take-whole i olds l) g
