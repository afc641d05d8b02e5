-- The index of a layer, set after set, and what is found near a set.
use Rattle.std.proofs.Common.{ℕ, ◌≡◌, ◌+◌, ◌<◌, ◌↔◌, inl, inr, sym, subst, ap, ◌∙◌, List, [], ◌∷◌, ◌++◌, length, map, get_or, set, arith}
use Rattle.std.specs.Prelude.{All, Contains}
use Rattle.std.specs.List.{flat_map}
use Rattle.std.proofs.lemmas.List.{get_or_default, get_or_past, get_or-set_same, get_or-set_other, length-set}
use Rattle.std.proofs.lemmas.List.Elements.{All-get_or, Contains-push, Contains-append_left, Contains-append_right}
use native.Mathlib.Decide.{dec_lt, ℕ_discrete}
use Rattle.cls_base.specs.Lists.{AreBelow}
use Rattle.cls_base.proofs.Lists.{AreBelow-append, Contains-cases, Contains-flat_map, Contains-map, Contains-from_map}
use Rattle.cls_check.specs.Checking.{IsPartOf}
use Rattle.cls_check.specs.Layers.{AllMet}
use Rattle.cls_check.specs.Near.{at, IsPut, AreIndexed}
use Rattle.cls_check.proofs.Sets.{last_or_less, below_at}

-- a number more in one bucket
abbrev pub with_number : List (List ℕ) → ℕ → ℕ → List (List ℕ)
with_number under a k = set under a (at under a ++ k ∷ [])

grows : (under : List (List ℕ)) (a k : ℕ) → a < length under → (c j : ℕ) → Contains (at under c) j → Contains (at (with_number under a k) c) j
grows under a k l c j h = go (ℕ_discrete c a)
  where
    go : Dec (c ≡ a) → Contains (at (with_number under a k) c) j
    go (yes e) =
        let here : at (with_number under a k) a ≡ at under a ++ k ∷ [] = get_or-set_same under a (at under a ++ k ∷ []) [] l in
        subst (λ (x : ℕ). Contains (at (with_number under a k) x) j) (sym e)
        (subst (λ (q : List ℕ). Contains q j) (sym here) (Contains-append_left (at under a) (k ∷ []) j (subst (λ (x : ℕ). Contains (at under x) j) e h)))
    go (no n) = subst (λ (q : List ℕ). Contains q j) (sym (get_or-set_other under a c (at under a ++ k ∷ []) [] n)) h

stands : (under : List (List ℕ)) (a k : ℕ) → a < length under → Contains (at (with_number under a k) a) k
stands under a k l = subst (λ (q : List ℕ). Contains q k) (sym (get_or-set_same under a (at under a ++ k ∷ []) [] l)) (Contains-push (at under a) k)

all_set_one : (P : List ℕ → Type 0) (xs : List (List ℕ)) (a : ℕ) (v : List ℕ) → a < length xs → All P xs → P v → All P (set xs a v)
all_set_one P xs a v l h p k d m = go (ℕ_discrete k a)
  where
    go : Dec (k ≡ a) → P (get_or (set xs a v) k d)
    go (yes e) = subst (λ (x : ℕ). P (get_or (set xs a v) x d)) (sym e) (subst P (sym (get_or-set_same xs a v d l)) p)
    go (no n) = subst P (sym (get_or-set_other xs a k v d n)) (h k d (let e = length-set xs a v in omega arith))

more_put : (under new : List (List ℕ)) (small wider : List ℕ) (t : List ℕ) (k : ℕ) → ((c j : ℕ) → Contains (at under c) j → Contains (at new c) j) → ((j : ℕ) → Contains small j → Contains wider j) → IsPut under small t k → IsPut new wider t k
more_put under new small wider t k f g (inl c) = inl (g k c)
more_put under new small wider t k f g (inr h) = inr (h.0, h.1, h.2, h.3, h.4, f h.0 k h.5, f h.1 k h.6)

module _ (count : ℕ) (layer : List (List ℕ)) where
  pub index_start : (under : List (List ℕ)) (small : List ℕ) → length under ≡ count → All (λ bucket. bucket ≡ []) under → small ≡ [] → AreIndexed count layer 0 under small
  index_start under small l n e = record {
    counted = l;
    put = λ k m. absurd (omega arith);
    under_below = λ k d m. subst (λ (q : List ℕ). AreBelow (length layer) q) (sym (n k d m)) tt;
    small_below = subst (λ (q : List ℕ). AreBelow (length layer) q) (sym e) tt;
  }

  module _ (i : ℕ) (under : List (List ℕ)) (small : List ℕ) (h : AreIndexed count layer i under small) (low : i < length layer) where
    pub index_small : (new : List ℕ) → new ≡ small ++ i ∷ [] → AreIndexed count layer (i + 1) under new
    index_small new e = subst (λ (q : List ℕ). AreIndexed count layer (i + 1) under q) (sym e) (record {
      counted = h.counted;
      put = λ k m. elim (last_or_less k i m) [
        | inl n ↦ more_put under under small (small ++ i ∷ []) (get_or layer k []) k (λ c j x. x) (λ j x. Contains-append_left small (i ∷ []) j x) (h.put k n)
        | inr f ↦ inl (subst (λ (x : ℕ). Contains (small ++ i ∷ []) x) (sym f) (Contains-push small i))
      ];
      under_below = h.under_below;
      small_below = AreBelow-append (length layer) small (i ∷ []) h.small_below (low, tt);
    })

    pub index_under : (a b : ℕ) → a < length under → b < length under → Contains (get_or layer i []) a → Contains (get_or layer i []) b → (a ≡ b → ⊥) → (one two : List (List ℕ)) → one ≡ with_number under a i → two ≡ with_number one b i → AreIndexed count layer (i + 1) two small
    index_under a b la lb ca cb ne one two e f =
        let l1 : length (with_number under a i) ≡ length under = length-set under a (at under a ++ i ∷ []) in
        let lb' : b < length (with_number under a i) = omega arith in
        let U = with_number under a i in
        let V = with_number U b i in
        let l2 : length V ≡ length U = length-set U b (at U b ++ i ∷ []) in
        let both : (c j : ℕ) → Contains (at under c) j → Contains (at V c) j = (λ c j x. grows U b i lb' c j (grows under a i la c j x)) in
        let bucket : (xs : List (List ℕ)) (x : ℕ) → All (AreBelow (length layer)) xs → AreBelow (length layer) (at xs x ++ i ∷ []) = (λ xs x g. AreBelow-append (length layer) (at xs x) (i ∷ []) (below_bucket xs x g) (low, tt)) in
        let belowU = all_set_one (AreBelow (length layer)) under a (at under a ++ i ∷ []) la h.under_below (bucket under a h.under_below) in
        subst (λ (q : List (List ℕ)). AreIndexed count layer (i + 1) q small) (sym (f ∙ ap (λ (q : List (List ℕ)). with_number q b i) e)) (record {
          counted = l2 ∙ (l1 ∙ h.counted);
          put = λ k m. elim (last_or_less k i m) [
            | inl n ↦ more_put under V small small (get_or layer k []) k both (λ j x. x) (h.put k n)
            | inr g ↦ subst (λ (x : ℕ). IsPut V small (get_or layer x []) x) (sym g) (inr (a, b, ca, cb, ne, grows U b i lb' a i (stands under a i la), stands U b i lb'))
          ];
          under_below = all_set_one (AreBelow (length layer)) U b (at U b ++ i ∷ []) lb' belowU (bucket U b belowU);
          small_below = h.small_below;
        })
      where
        below_bucket : (xs : List (List ℕ)) (x : ℕ) → All (AreBelow (length layer)) xs → AreBelow (length layer) (at xs x)
        below_bucket xs x g = go (dec_lt x (length xs))
          where
            go : Dec (x < length xs) → AreBelow (length layer) (at xs x)
            go (yes m) = All-get_or (AreBelow (length layer)) xs x [] m g
            go (no n) = subst (λ (q : List ℕ). AreBelow (length layer) q) (sym (get_or_past xs x [] (omega arith))) tt

-- what the index finds near a set
module _ (count : ℕ) (layer : List (List ℕ)) (under : List (List ℕ)) (small : List ℕ) (h : AreIndexed count layer (length layer) under small) (s : List ℕ) where
  abbrev pub near_of : List ℕ
  near_of = small ++ flat_map (at under) s

  at_below : (x : ℕ) → AreBelow (length layer) (at under x)
  at_below x = go (dec_lt x (length under))
    where
      go : Dec (x < length under) → AreBelow (length layer) (at under x)
      go (yes m) = All-get_or (AreBelow (length layer)) under x [] m h.under_below
      go (no n) = subst (λ (q : List ℕ). AreBelow (length layer) q) (sym (get_or_past under x [] (omega arith))) tt

  all_at_below : (xs : List ℕ) → AreBelow (length layer) (flat_map (at under) xs)
  all_at_below [] = tt
  all_at_below (x ∷ xs) = AreBelow-append (length layer) (at under x) (flat_map (at under) xs) (at_below x) (all_at_below xs)

  pub near_below : AreBelow (length layer) near_of
  near_below = AreBelow-append (length layer) small (flat_map (at under) s) h.small_below (all_at_below s)

  under_one : (a k : ℕ) → Contains s a → Contains (at under a) k → Contains near_of k
  under_one a k c d = Contains-append_right small (flat_map (at under) s) k (Contains-flat_map (at under) s a k c d)

  -- a set that lacks at most one number is found
  found : (t : List ℕ) (k i : ℕ) → IsPartOf t (i ∷ s) → IsPut under small t k → Contains near_of k
  found t k i p (inl c) = Contains-append_left small (flat_map (at under) s) k c
  found t k i p (inr h) = elim (Contains-cases i s h.0 (p h.0 h.2)) [
    | inr c ↦ under_one h.0 k c h.5
    | inl e ↦ elim (Contains-cases i s h.1 (p h.1 h.3)) [
      | inr d ↦ under_one h.1 k d h.6
      | inl f ↦ absurd (h.4 (e ∙ sym f))
    ]
  ]

  abbrev pub near_sets : List (List ℕ)
  near_sets = map (λ (k : ℕ). get_or layer k []) near_of

  pub met_near : (family : List ℕ) → AllMet family near_sets s ↔ AllMet family layer s
  met_near family = (
    (λ f i c. let r = f i c in let m = Contains-from_map (λ (k : ℕ). get_or layer k []) near_of r.0 r.1 in
        let l = below_at (length layer) near_of m.0 near_below m.1 in
        (r.0, subst (λ (t : List ℕ). Contains layer t) (sym m.2) (m.0, l, get_or_default layer m.0 (get_or layer m.0 []) [] l), r.2)),
    (λ f i c. let r = f i c in let d = r.1 in
        let e : get_or layer d.0 [] ≡ r.0 = get_or_default layer d.0 [] r.0 d.1 ∙ d.2 in
        let n = found (get_or layer d.0 []) d.0 i (subst (λ (t : List ℕ). IsPartOf t (i ∷ s)) (sym e) r.2) (h.put d.0 d.1) in
        (r.0, subst (λ (t : List ℕ). Contains near_sets t) e (Contains-map (λ (k : ℕ). get_or layer k []) near_of d.0 n), r.2)),
  )
