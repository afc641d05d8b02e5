-- Openings in their order.
use Rattle.std.proofs.Common.{◌≡◌, ℕ, ◌<◌, ◌≤◌, sym, ◌∙◌, inl, inr, arith}
use Rattle.std.specs.Prelude.{◌⊎◌, Option, None, Some}
use Rattle.std.proofs.lemmas.Bool.{cases_lt}
use Rattle.cls_walk.specs.Openings.{ComesAfter, IsAtMost, IsBelow, IsDone}
use Rattle.cls_walk.specs.declared.opening.Opening.{Opening}

-- three numbers in their order
at-least : (x k y m : ℕ) → (x < y) ⊎ ((x ≡ y) × (k ≤ m)) ⊎ (y < x) ⊎ ((y ≡ x) × (m < k))
at-least x k y m = elim (cases_lt x y) [
  | inl l ↦ inl l
  | inr l ↦ elim (cases_lt y x) [
    | inl g ↦ inr (inr (inl g))
    | inr g ↦
        let e : x ≡ y = omega arith in
        elim (cases_lt m k) [ inl s ↦ inr (inr (inr (sym e, s))) | inr s ↦ inr (inl (e, s)) ]
  ]
]

-- what isn't done comes after the last opening
pub done-or-after : (last : Option Opening) (x k : ℕ) → IsDone last x k ⊎ ComesAfter last x k
done-or-after None x k = inr tt
done-or-after (Some o) x k = elim (at-least x k o.component o.count) [
  | inl l ↦ inl (inl l)
  | inr r ↦ elim r [
    | inl e ↦ inl (inr e)
    | inr s ↦ inr s
  ]
]

-- what is done comes before what comes after the last opening
pub done-before : (last : Option Opening) (x k y m : ℕ) → IsDone last x k → ComesAfter last y m → (x < y) ⊎ ((x ≡ y) × (k < m))
done-before None x k y m d a = absurd d
done-before (Some o) x k y m (inl d) (inl a) = inl (omega arith)
done-before (Some o) x k y m (inl d) (inr a) = inl (let z = a.0 in omega arith)
done-before (Some o) x k y m (inr d) (inl a) = inl (let z = d.0 in omega arith)
done-before (Some o) x k y m (inr d) (inr a) = inr (d.0 ∙ a.0, (let y = d.1 in let z = a.1 in omega arith))

-- what is done is still done where a later opening is the last one
pub done-later : (last : Option Opening) (o : Opening) (x k : ℕ) → IsDone last x k → ComesAfter last o.component o.count → IsDone (Some o) x k
done-later last o x k d a = elim (done-before last x k o.component o.count d a) [
  | inl l ↦ inl l
  | inr e ↦ inr (e.0, (let z = e.1 in omega arith))
]

-- what is done and isn't earlier is the last opening itself
pub done-here : (o : Opening) (x k : ℕ) → IsDone (Some o) x k → IsAtMost o x k → (x ≡ o.component) × (k ≡ o.count)
done-here o x k (inl d) (inl a) = absurd (omega arith)
done-here o x k (inl d) (inr a) = absurd (let z = a.0 in omega arith)
done-here o x k (inr d) (inl a) = absurd (let z = d.0 in omega arith)
done-here o x k (inr d) (inr a) = (d.0, (let y = d.1 in let z = a.1 in omega arith))

pub below-then : (a b : Opening) (x k : ℕ) → IsBelow a b.component b.count → IsBelow b x k → IsBelow a x k
below-then a b x k (inl p) (inl q) = inl (omega (arith, p, q))
below-then a b x k (inl p) (inr q) = inl (let e = q.0 in omega (arith, p, e))
below-then a b x k (inr p) (inl q) = inl (let e = p.0 in omega (arith, q, e))
below-then a b x k (inr p) (inr q) = inr (p.0 ∙ q.0, (let m = p.1 in let n = q.1 in omega (arith, m, n)))

pub most-below : (a b : Opening) (x k : ℕ) → IsAtMost a b.component b.count → IsBelow b x k → IsBelow a x k
most-below a b x k (inl p) (inl q) = inl (omega (arith, p, q))
most-below a b x k (inl p) (inr q) = inl (let e = q.0 in omega (arith, p, e))
most-below a b x k (inr p) (inl q) = inl (let e = p.0 in omega (arith, q, e))
most-below a b x k (inr p) (inr q) = inr (p.0 ∙ q.0, (let m = p.1 in let n = q.1 in omega (arith, m, n)))

pub below-most : (a : Opening) (x k : ℕ) → IsBelow a x k → IsAtMost a x k
below-most a x k (inl p) = inl p
below-most a x k (inr p) = inr (p.0, (let m = p.1 in omega (arith, m)))

-- what is below isn't reached
pub below-done : (o : Opening) (x k : ℕ) → IsBelow o x k → IsDone (Some o) x k → ⊥
below-done o x k (inl p) (inl q) = omega (arith, p, q)
below-done o x k (inl p) (inr q) = let e = q.0 in omega (arith, p, e)
below-done o x k (inr p) (inl q) = let e = p.0 in omega (arith, q, e)
below-done o x k (inr p) (inr q) = let m = p.1 in let n = q.1 in omega (arith, m, n)
