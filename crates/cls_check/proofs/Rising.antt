-- Strictly ascending positions, one after another.
use Rattle.std.proofs.Common.{ℕ, zero, suc, ◌≡◌, ◌+◌, ◌<◌, ◌≤◌, List, [], ◌∷◌, length, get_or, subst, arith}
use Rattle.cls_base.specs.Lists.{AreBelow}
use Rattle.cls_check.specs.Checking.{ArePositions}

-- they ascend strictly from the first number on, and stay below the second
abbrev pub RiseFrom : ℕ → ℕ → List ℕ → Type 0
RiseFrom least count [] = Unit {0}
RiseFrom least count (x ∷ s) = (least ≤ x) × (x < count) × RiseFrom (x + 1) count s

below_from : (least count : ℕ) (s : List ℕ) → RiseFrom least count s → AreBelow count s
below_from least count [] h = tt
below_from least count (x ∷ s) h = (h.1, below_from (x + 1) count s h.2)

rises_from : (least count : ℕ) (s : List ℕ) → RiseFrom least count s → (k : ℕ) → k + 1 < length s → get_or s k 0 < get_or s (k + 1) 0
rises_from least count [] h k l = absurd (omega arith)
rises_from least count (x ∷ []) h k l = absurd (omega arith)
rises_from least count (x ∷ y ∷ s) h zero l = let a = h.2.0 in omega arith
rises_from least count (x ∷ y ∷ s) h (suc k) l =
    let r = rises_from (x + 1) count (y ∷ s) h.2 k (omega arith) in
    subst (λ j. get_or (y ∷ s) k 0 < get_or (x ∷ y ∷ s) j 0) (let e : suc (k + 1) ≡ suc k + 1 = omega arith in e) r

pub positions_from : (count : ℕ) (s : List ℕ) → RiseFrom 0 count s → ArePositions count s
positions_from count s h = record { ascend = rises_from 0 count s h; within = below_from 0 count s h }

rise_again : (least count : ℕ) (s : List ℕ) → ((k : ℕ) → k + 1 < length s → get_or s k 0 < get_or s (k + 1) 0) → AreBelow count s → (0 < length s → least ≤ get_or s 0 0) → RiseFrom least count s
rise_again least count [] h b m = tt
rise_again least count (x ∷ s) h b m = (m (omega arith), b.0, rise_again (x + 1) count s (λ k l. later k l) b.1 (λ l. let a = first l in omega arith))
  where
    later : (k : ℕ) → k + 1 < length s → get_or s k 0 < get_or s (k + 1) 0
    later k l = subst (λ j. get_or s k 0 < get_or (x ∷ s) j 0) (let e : suc k + 1 ≡ suc (k + 1) = omega arith in e) (h (suc k) (omega arith))

    first : 0 < length s → x < get_or s 0 0
    first l = subst (λ j. x < get_or (x ∷ s) j 0) (let e : 0 + 1 ≡ suc 0 = omega arith in e) (h 0 (omega arith))

pub positions_rise : (count : ℕ) (s : List ℕ) → ArePositions count s → RiseFrom 0 count s
positions_rise count s h = rise_again 0 count s h.ascend h.within (λ l. omega arith)
