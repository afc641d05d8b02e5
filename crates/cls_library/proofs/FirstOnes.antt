-- What stands for the first time in a list, in the order of its first places.
use Rattle.std.proofs.Common.{◌≡◌, sym, subst, ap, refl, ◌⊎◌, inl, inr, List, ◌∷◌, Contains}
use Rattle.cls_base.proofs.Lists.{Contains-here, Contains-later, Contains-cases}
use Rattle.cls_library.specs.Rules.{FirstOnes, no_more, fresh, again}

module _ {A : Type 0} where
  pub first_ones_from : {seen xs ys : List A} (x : A) → FirstOnes seen xs ys → Contains ys x → Contains xs x
  first_ones_from x no_more m = m
  first_ones_from x (fresh {xs = xs} {ys = ys} {x = y} n h) m = elim (Contains-cases y ys x m) [
    | inl e ↦ subst (λ z. Contains (y ∷ xs) z) (sym e) (Contains-here y xs)
    | inr k ↦ Contains-later x y xs (first_ones_from x h k)
  ]
  first_ones_from x (again {xs = xs} {x = y} n h) m = Contains-later x y xs (first_ones_from x h m)

  -- what isn't seen stands in what is left
  pub first_ones_all : {seen xs ys : List A} (x : A) → FirstOnes seen xs ys → Contains xs x → Contains seen x ⊎ Contains ys x
  first_ones_all x no_more m = inr m
  first_ones_all x (fresh {seen = seen} {xs = xs} {ys = ys} {x = y} n h) m = elim (Contains-cases y xs x m) [
    | inl e ↦ inr (subst (λ z. Contains (y ∷ ys) z) (sym e) (Contains-here y ys))
    | inr k ↦ elim (first_ones_all x h k) [
      | inl s ↦ elim (Contains-cases y seen x s) [
        | inl e ↦ inr (subst (λ z. Contains (y ∷ ys) z) (sym e) (Contains-here y ys))
        | inr t ↦ inl t
      ]
      | inr s ↦ inr (Contains-later x y ys s)
    ]
  ]
  first_ones_all x (again {seen = seen} {xs = xs} {x = y} n h) m = elim (Contains-cases y xs x m) [
    | inl e ↦ inl (subst (λ z. Contains seen z) (sym e) n)
    | inr k ↦ first_ones_all x h k
  ]

  pub first_ones_unique : {seen xs ys zs : List A} → FirstOnes seen xs ys → FirstOnes seen xs zs → ys ≡ zs
  first_ones_unique no_more no_more = refl
  first_ones_unique (fresh {x = x} n h) (fresh m k) = ap (λ l. x ∷ l) (first_ones_unique h k)
  first_ones_unique (fresh n h) (again m k) = absurd (n m)
  first_ones_unique (again n h) (fresh m k) = absurd (m n)
  first_ones_unique (again n h) (again m k) = first_ones_unique h k
