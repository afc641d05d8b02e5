-- What stands for the first time in lists that are put behind each other, of which a test keeps a part, or whose elements are
-- renamed; and lists that are related place by place, put behind each other or kept in part.
use Rattle.std.proofs.Common.{◌≡◌, refl, sym, ◌∙◌, subst, ap, ◌⊎◌, inl, inr, List, [], ◌∷◌, ◌++◌, Bool, true, false, Contains, cond}
use Rattle.std.specs.Prelude.{◌↔◌, map, filter}
use Rattle.cls_base.proofs.Lists.{Contains-nil, Contains-here, Contains-head, Contains-later, Contains-cases, Contains-map}
use Rattle.cls_cover.specs.Lists.{Rises}
use Rattle.cls_library.specs.Rules.{FirstOnes, no_more, fresh, again}
use Rattle.cls_library.proofs.ByCases.{Zip, zip_none, zip_more}
use Rattle.cls_expand.proofs.Making.{in_mapped}

module _ {A : Type 0} where
  more_seen : (s t : List A) (x z : A) → (Contains s z → Contains t z) → Contains (x ∷ s) z → Contains (x ∷ t) z
  more_seen s t x z f m = elim (Contains-cases x s z m) [
    | inl e ↦ Contains-head z x t e
    | inr k ↦ Contains-later z x t (f k)
  ]

  -- of what was seen only elements of the list matter
  pub first_ones_seen :
      {seen other xs ys : List A} → FirstOnes seen xs ys → ((x : A) → Contains xs x → Contains seen x ↔ Contains other x)
      → FirstOnes other xs ys
  first_ones_seen no_more f = no_more
  first_ones_seen {other = other} (fresh {seen = seen} {xs = xs} {x = x} n h) f = fresh (λ m. n ((f x (Contains-here x xs)).1 m))
      (first_ones_seen h (λ z m. let g = f z (Contains-later z x xs m) in (more_seen seen other x z g.0, more_seen other seen x z g.1)))
  first_ones_seen (again {xs = xs} {x = x} n h) f =
      again ((f x (Contains-here x xs)).0 n) (first_ones_seen h (λ z m. f z (Contains-later z x xs m)))

  -- two lists with nothing in common, one after the other
  pub first_ones_append :
      {seen xs rs ys qs : List A} → FirstOnes seen xs rs → FirstOnes [] ys qs
      → ((z : A) → Contains ys z → Contains xs z ⊎ Contains seen z → ⊥) → FirstOnes seen (xs ++ ys) (rs ++ qs)
  first_ones_append no_more k f = first_ones_seen k (λ z m. ((λ i. absurd (Contains-nil z i)), (λ i. absurd (f z m (inr i)))))
  first_ones_append (fresh {seen = seen} {xs = xs} {x = x} n h) k f = fresh n (first_ones_append h k (λ z m u. f z m (back z u)))
    where
      back : (z : A) → Contains xs z ⊎ Contains (x ∷ seen) z → Contains (x ∷ xs) z ⊎ Contains seen z
      back z (inl i) = inl (Contains-later z x xs i)
      back z (inr i) = elim (Contains-cases x seen z i) [ inl e ↦ inl (Contains-head z x xs e) | inr j ↦ inr j ]
  first_ones_append (again {seen = seen} {xs = xs} {x = x} n h) k f = again n (first_ones_append h k (λ z m u. f z m (back z u)))
    where
      back : (z : A) → Contains xs z ⊎ Contains seen z → Contains (x ∷ xs) z ⊎ Contains seen z
      back z (inl i) = inl (Contains-later z x xs i)
      back z (inr i) = inr i

  module _ (p : A → Bool) where
    -- what a test keeps
    pub kept_in : (xs : List A) (x : A) → Contains (filter p xs) x → Contains xs x × (p x ≡ true)
    kept_in [] x m = absurd (Contains-nil x m)
    kept_in (y ∷ xs) x m = by (kept_in xs x) (p y) refl m
      where
        by : (Contains (filter p xs) x → Contains xs x × (p x ≡ true)) → (b : Bool) → p y ≡ b
            → Contains (cond b (y ∷ filter p xs) (filter p xs)) x → Contains (y ∷ xs) x × (p x ≡ true)
        by rest true e k = elim (Contains-cases y (filter p xs) x k) [
          | inl i ↦ (Contains-head x y xs i, ap p i ∙ e)
          | inr j ↦ (let r = rest j in (Contains-later x y xs r.0, r.1))
        ]
        by rest false e k = let r = rest k in (Contains-later x y xs r.0, r.1)

    pub kept : (xs : List A) (x : A) → Contains xs x → p x ≡ true → Contains (filter p xs) x
    kept [] x m e = absurd (Contains-nil x m)
    kept (y ∷ xs) x m e = by (λ k. kept xs x k e) (p y) refl (Contains-cases y xs x m)
      where
        by : (Contains xs x → Contains (filter p xs) x) → (b : Bool) → p y ≡ b → (x ≡ y) ⊎ Contains xs x
            → Contains (cond b (y ∷ filter p xs) (filter p xs)) x
        by rest true f (inl i) = Contains-head x y (filter p xs) i
        by rest true f (inr k) = Contains-later x y (filter p xs) (rest k)
        by rest false f (inl i) = absurd (let g : true ≡ false = sym e ∙ (ap p i ∙ f) in cc)
        by rest false f (inr k) = rest k

    pub rises_kept : (R : A → A → Type 0) (xs : List A) → Rises R xs → Rises R (filter p xs)
    rises_kept R [] r = tt
    rises_kept R (x ∷ xs) r = by (rises_kept R xs r.1) (p x)
      where
        by : Rises R (filter p xs) → (b : Bool) → Rises R (cond b (x ∷ filter p xs) (filter p xs))
        by rest true = ((λ y m. r.0 y (kept_in xs y m).0), rest)
        by rest false = rest

    pub first_ones_kept : {seen xs ys : List A} → FirstOnes seen xs ys → FirstOnes seen (filter p xs) (filter p ys)
    first_ones_kept no_more = no_more
    first_ones_kept (fresh {seen = seen} {xs = xs} {ys = ys} {x = x} n h) = by (first_ones_kept h) (p x) refl
      where
        by : FirstOnes (x ∷ seen) (filter p xs) (filter p ys) → (b : Bool) → p x ≡ b
            → FirstOnes seen (cond b (x ∷ filter p xs) (filter p xs)) (cond b (x ∷ filter p ys) (filter p ys))
        by rest true e = fresh n rest
        by rest false e = first_ones_seen rest (λ z m. (seen_before z m, (λ i. Contains-later z x seen i)))
          where
            seen_before : (z : A) → Contains (filter p xs) z → Contains (x ∷ seen) z → Contains seen z
            seen_before z m i = elim (Contains-cases x seen z i) [
              | inl same ↦ absurd (let g : true ≡ false = sym (kept_in xs z m).1 ∙ (ap p same ∙ e) in cc)
              | inr j ↦ j
            ]
    first_ones_kept (again {seen = seen} {xs = xs} {ys = ys} {x = x} n h) = by (first_ones_kept h) (p x)
      where
        by : FirstOnes seen (filter p xs) (filter p ys) → (b : Bool) → FirstOnes seen (cond b (x ∷ filter p xs) (filter p xs)) (filter p ys)
        by rest true = again n rest
        by rest false = rest

  -- renamed by f, which g undoes on the elements
  pub first_ones_map :
      (f g : A → A) {seen xs ys : List A} → FirstOnes seen xs ys → ((r : A) → Contains seen r → g (f r) ≡ r)
      → ((r : A) → Contains xs r → g (f r) ≡ r) → FirstOnes (map f seen) (map f xs) (map f ys)
  first_ones_map f g no_more s t = no_more
  first_ones_map f g (fresh {seen = seen} {xs = xs} {x = x} n h) s t =
      let here = t x (Contains-here x xs) in
      fresh (λ m. let u = in_mapped f seen (f x) m in n (subst (λ z. Contains seen z) (sym (s u.0 u.1) ∙ (ap g u.2 ∙ here)) u.1))
      (first_ones_map f g h (λ r m. elim (Contains-cases x seen r m) [
        | inl e ↦ subst (λ z. g (f z) ≡ z) (sym e) here
        | inr k ↦ s r k
      ]) (λ r m. t r (Contains-later r x xs m)))
  first_ones_map f g (again {seen = seen} {xs = xs} {x = x} n h) s t =
      again (Contains-map f seen x n) (first_ones_map f g h s (λ r m. t r (Contains-later r x xs m)))

module _ {A B : Type 0} {R : A → B → Type 0} where
  pub zip_behind : {xs us : List A} {ys vs : List B} → Zip R xs ys → Zip R us vs → Zip R (xs ++ us) (ys ++ vs)
  zip_behind zip_none k = k
  zip_behind (zip_more r h) k = zip_more r (zip_behind h k)

  -- of two lists, place by place, what tests keep that agree
  pub zip_kept :
      (p : A → Bool) (q : B → Bool) {xs : List A} {ys : List B} → ((x : A) (y : B) → R x y → p x ≡ q y) → Zip R xs ys
      → Zip R (filter p xs) (filter q ys)
  zip_kept p q f zip_none = zip_none
  zip_kept p q f (zip_more {x = x} {y = y} {xs = xs} {ys = ys} r h) =
      subst (λ (b : Bool). Zip R (filter p (x ∷ xs)) (cond b (y ∷ filter q ys) (filter q ys))) (f x y r) (by (zip_kept p q f h) (p x))
    where
      by : Zip R (filter p xs) (filter q ys) → (b : Bool)
          → Zip R (cond b (x ∷ filter p xs) (filter p xs)) (cond b (y ∷ filter q ys) (filter q ys))
      by rest true = zip_more r rest
      by rest false = rest
