-- Places in order.
use Rattle.std.proofs.Common.{◌≡◌, ℕ, zero, suc, ◌<◌, ◌≤◌, ◌==◌, ◌&&◌, ◌⊎◌, inl, inr, true, ◌∙◌, arith}
use Rattle.cls_library.specs.declared.place.Place.{Place}
use Rattle.cls_library.specs.contracts.place.PlacePartialEq.TheImpl.{eq-value}
use Rattle.cls_library.specs.Families.{IsBefore}

pub less-or-not : (i m : ℕ) → (i < m) ⊎ (m ≤ i)
less-or-not zero zero = inr (omega arith)
less-or-not zero (suc m) = inl (omega arith)
less-or-not (suc i) zero = inr (omega arith)
less-or-not (suc i) (suc m) = elim (less-or-not i m) [ inl l ↦ inl (omega arith) | inr l ↦ inr (omega arith) ]

pub same_place : (p q : Place) → p.component ≡ q.component → p.count ≡ q.count → p ≡ q
same_place p q e f = λ i. record { component = e i; count = f i }

both-equal : (a b c d : ℕ) → ((a == b) && (c == d)) ≡ true → (a ≡ b) × (c ≡ d)
both-equal a b c d h = (grind arith, grind arith)

pub equal_place : (p q : Place) → eq-value.it p q ≡ true → p ≡ q
equal_place p q h = let r = both-equal p.component q.component p.count q.count h in same_place p q r.0 r.1

pub before_trans : (p q r : Place) → IsBefore p q → IsBefore q r → IsBefore p r
before_trans p q r h k = elim h [
  | inl a ↦ elim k [ inl b ↦ inl (omega arith) | inr b ↦ inl (let e = b.0 in omega arith) ]
  | inr a ↦ elim k [ inl b ↦ inl (let e = a.0 in omega arith) | inr b ↦ inr (a.0 ∙ b.0, let x = a.1 in let y = b.1 in omega arith) ]
]

pub before_itself : (p : Place) → IsBefore p p → ⊥
before_itself p h = elim h [ inl a ↦ omega arith | inr a ↦ (let x = a.1 in omega arith) ]

-- an earlier place isn't later
pub not_later : (p q : Place) → IsBefore p q → IsBefore q p → ⊥
not_later p q h k = before_itself p (before_trans p q p h k)
