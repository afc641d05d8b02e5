-- The number of choices.
use Rattle.std.proofs.Common.{◌≡◌, ℕ, zero, suc, ◌+◌, ◌*◌, ◌<◌, ◌≤◌, List, [], ◌∷◌, length, drop, get_or, refl, sym, ap, ◌∙◌, arith}
use Rattle.std.proofs.Math.Nat.{mul-le-mul_left}
use Rattle.std.proofs.lemmas.List.{drop_more, drop_all}
use Rattle.cls_base.specs.Limits.{max_instances}
use Rattle.cls_base.specs.Types.{ClosedType}
use Rattle.cls_kind.specs.Instances.{count_of, AreFull}

pub full-first : (r : ℕ × List ClosedType) (rs : List (ℕ × List ClosedType)) → AreFull (r ∷ rs) → r.1 ≡ [] → ⊥
full-first r rs h = h 0 r (omega arith)

pub full-rest : (r : ℕ × List ClosedType) (rs : List (ℕ × List ClosedType)) → AreFull (r ∷ rs) → AreFull rs
full-rest r rs h k d l = h (suc k) d (omega arith)

length-positive : (ts : List ClosedType) → (ts ≡ [] → ⊥) → 0 < length ts
length-positive [] h = absurd (h refl)
length-positive (t ∷ ts) h = omega arith

positive : (m n : ℕ) → 0 < m → 0 < n → 0 < m * n
positive (suc m) (suc n) p q = omega arith
positive zero n p q = absurd (omega arith)
positive (suc m) zero p q = absurd (omega arith)

pub count-positive : (rs : List (ℕ × List ClosedType)) → AreFull rs → 0 < count_of rs
count-positive [] h = omega arith
count-positive (r ∷ rs) h = positive (length r.1) (count_of rs) (length-positive r.1 (full-first r rs h)) (count-positive rs (full-rest r rs h))

pub full-drop : (i : ℕ) (rs : List (ℕ × List ClosedType)) → AreFull rs → AreFull (drop i rs)
full-drop zero rs h = h
full-drop (suc i) [] h = h
full-drop (suc i) (r ∷ rs) h = full-drop i rs (full-rest r rs h)

-- the product of the first numbers and that of the others
pub record Counts (rs : List (ℕ × List ClosedType)) (i count : ℕ) : Type 0 where
  pub product : count * count_of (drop i rs) ≡ count_of rs
  pub few : count ≤ max_instances

pub counts-none : (rs : List (ℕ × List ClosedType)) → Counts rs 0 1
counts-none rs = record { product = omega arith; few = omega arith }

module _ (rs : List (ℕ × List ClosedType)) (i count : ℕ) (h : Counts rs i count) (r : ℕ × List ClosedType) (at : i < length rs) (is : get_or rs i r ≡ r) where
  product-more : (count * length r.1) * count_of (drop (i + 1) rs) ≡ count_of rs
  product-more =
      let e : drop i rs ≡ r ∷ drop (i + 1) rs = drop_more rs i r at ∙ ap (λ x. x ∷ drop (i + 1) rs) is in
      let p : count * (length r.1 * count_of (drop (i + 1) rs)) ≡ count_of rs = ap (λ x. count * count_of x) (sym e) ∙ h.product in
      omega arith

  pub counts-more : count * length r.1 ≤ max_instances → Counts rs (i + 1) (count * length r.1)
  counts-more l = record { product = product-more; few = l }

  pub counts-many : AreFull rs → max_instances < count * length r.1 → max_instances < count_of rs
  counts-many full l =
      let p = count-positive (drop (i + 1) rs) (full-drop (i + 1) rs full) in
      let m : (count * length r.1) * 1 ≤ (count * length r.1) * count_of (drop (i + 1) rs) = mul-le-mul_left (count * length r.1) p in
      let e = product-more in
      omega arith

pub counts-all : (rs : List (ℕ × List ClosedType)) (i count : ℕ) → Counts rs i count → length rs ≤ i → count ≡ count_of rs
counts-all rs i count h l =
    let e : count_of (drop i rs) ≡ 1 = ap count_of (drop_all i rs l) in
    let p : count * 1 ≡ count_of rs = ap (λ n. count * n) (sym e) ∙ h.product in
    omega arith
