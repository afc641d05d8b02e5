-- The places that a finder gives, one after another.
use Rattle.std.proofs.Common.{ℕ, ◌≡◌, ◌+◌, ◌-◌, ◌*◌, ◌<◌, ◌≤◌, ◌⊎◌, inl, inr, sym, subst, List, length, arith}
use Rattle.std.specs.Prelude.{None}
use Rattle.std.proofs.lemmas.List.Elements.{All-get_or}
use Rattle.cls_path.specs.Paths.{TypePath, Paths}
use Rattle.cls_library.specs.Arrows.{arity_of}
use Rattle.cls_library.specs.Families.{IsEarlier, IsNext, IsNextPlace}
use Rattle.cls_library.specs.Libraries.{Library, IsLibrary, IsWithinLimits, no_component, paths_at}
use Rattle.cls_library.specs.declared.place.Place as library
use Rattle.cls_check.specs.declared.place.Place.{Place}
use Rattle.cls_check.specs.Checking.{IsPlace}
use Rattle.cls_check.specs.Tests.{IsOtherWalked}
use Rattle.cls_check.proofs.Walking.{begins_nowhere}

-- the place as the checks have it
abbrev pub place_at : ℕ → ℕ → Place
place_at x n = record { component = x; n = n }

compare : (a b : ℕ) → (a < b) ⊎ ((a ≡ b) ⊎ (b < a))
compare a b = grind arith

earlier_or_not : (x n y k : ℕ) → IsEarlier x n y k ⊎ (IsEarlier x n y k → ⊥)
earlier_or_not x n y k = by (compare y x) (compare k n)
  where
    by : (y < x) ⊎ ((y ≡ x) ⊎ (x < y)) → (k < n) ⊎ ((k ≡ n) ⊎ (n < k)) → IsEarlier x n y k ⊎ (IsEarlier x n y k → ⊥)
    by (inl h) m = inl (inl h)
    by (inr (inr h)) m = inr (λ i. elim i [ inl j ↦ omega arith | inr j ↦ (let e : y ≡ x = j.0 in omega arith) ])
    by (inr (inl e)) (inl m) = inl (inr (e, m))
    by (inr (inl e)) (inr (inl m)) = inr (λ i. elim i [ inl j ↦ omega arith | inr j ↦ (let l : k < n = j.1 in omega arith) ])
    by (inr (inl e)) (inr (inr m)) = inr (λ i. elim i [ inl j ↦ omega arith | inr j ↦ (let l : k < n = j.1 in omega arith) ])

-- one argument more: a place that is earlier is earlier already, or is the place itself
last_one : (x n y k : ℕ) → IsEarlier x (n + 1) y k → IsEarlier x n y k ⊎ ((y ≡ x) × (k ≡ n))
last_one x n y k (inl h) = inl (inl h)
last_one x n y k (inr h) = by (compare k n)
  where
    by : (k < n) ⊎ ((k ≡ n) ⊎ (n < k)) → IsEarlier x n y k ⊎ ((y ≡ x) × (k ≡ n))
    by (inl m) = inl (inr (h.0, m))
    by (inr (inl e)) = inr (h.0, e)
    by (inr (inr m)) = absurd (let l : k < n + 1 = h.1 in omega arith)

module _ (l : Library) (goals : List (List TypePath)) (keys : List Place) (form : Paths) where
  abbrev Walked : ℕ → ℕ → Type 0
  Walked x n = IsOtherWalked l goals keys form (place_at x n)

  -- the places before component x with n arguments that have no block are walked
  abbrev pub AreWalkedBefore : ℕ → ℕ → Type 0
  AreWalkedBefore x n = (y k : ℕ) → IsPlace l y k → IsEarlier x n y k → Walked y k

  pub walked_start : AreWalkedBefore 0 0
  walked_start y k place (inl h) = absurd (let m : y < 0 = h in omega arith)
  walked_start y k place (inr h) = absurd (let m : k < 0 = h.1 in omega arith)

  module _ (from : library.Place) (before : AreWalkedBefore from.component from.count) where
    -- up to the next place, and with it
    pub walked_next : (p : library.Place) → IsNextPlace l form from p → Walked p.component p.count → AreWalkedBefore p.component (p.count + 1)
    walked_next p next here y k place h = by (last_one p.component p.count y k h) (earlier_or_not from.component from.count y k)
      where
        by : IsEarlier p.component p.count y k ⊎ ((y ≡ p.component) × (k ≡ p.count)) → IsEarlier from.component from.count y k ⊎ (IsEarlier from.component from.count y k → ⊥) → Walked y k
        by (inr e) i = subst (λ (x : ℕ). Walked x k) (sym e.0) (subst (λ (n : ℕ). Walked p.component n) (sym e.1) here)
        by (inl m) (inl i) = before y k place i
        by (inl m) (inr i) = λ absent. begins_nowhere l goals (place_at y k) form
            (next.passed (record { component = y; count = k }) (record { declared = place.declared; within = place.within }) i m)

    -- to the end, if there is no next place
    pub walked_all : IsNext l form from None → (y k : ℕ) → IsPlace l y k → Walked y k
    walked_all next y k place = by (earlier_or_not from.component from.count y k)
      where
        by : IsEarlier from.component from.count y k ⊎ (IsEarlier from.component from.count y k → ⊥) → Walked y k
        by (inl i) = before y k place i
        by (inr i) = λ absent. begins_nowhere l goals (place_at y k) form
            (next (record { component = y; count = k }) (record { declared = place.declared; within = place.within }) i)

pub arity_within : (l : Library) (x : ℕ) → IsLibrary l → x < length l.components → arity_of (paths_at l x) ≤ 32
arity_within l x is d = (All-get_or (IsWithinLimits l.taxonomy) l.components x no_component d is.each).arity

-- the places that are left get fewer
pub fewer_left : (size x n y k : ℕ) → (IsEarlier x n y k → ⊥) → x ≤ size → n ≤ 33 → y < size → k ≤ 32
    → (size + 1) * 34 - (y * 34 + (k + 1)) < (size + 1) * 34 - (x * 34 + n)
fewer_left size x n y k later a b c d = by (compare y x) (compare k n)
  where
    by : (y < x) ⊎ ((y ≡ x) ⊎ (x < y)) → (k < n) ⊎ ((k ≡ n) ⊎ (n < k)) → (size + 1) * 34 - (y * 34 + (k + 1)) < (size + 1) * 34 - (x * 34 + n)
    by (inl h) m = absurd (later (inl h))
    by (inr (inr h)) m = omega arith
    by (inr (inl e)) (inl m) = absurd (later (inr (e, m)))
    by (inr (inl e)) (inr (inl m)) = omega arith
    by (inr (inl e)) (inr (inr m)) = omega arith
