-- Slots that rise, and the components that have them.
use Rattle.std.proofs.Common.{ℕ, zero, suc, ◌≡◌, ◌+◌, ◌<◌, ◌≤◌, refl, sym, ◌∙◌, ap, ◌⊎◌, inl, inr, List, [], ◌∷◌, ◌++◌, Option, None, Some, length, get_or, slice_get, arith, Bool, true, false, cond, length-append}
use Rattle.std.specs.Prelude.{◌==◌, remove}
use Rattle.std.proofs.lemmas.Bool.Decides.{Decides-eqb}
use Rattle.std.proofs.lemmas.Option.{get_or_from_slice_get, slice_get_within}
use Rattle.std.proofs.lemmas.List.Edits.{length-remove}
use Rattle.cls_library.specs.Libraries.{Library, Component}
use Rattle.cls_live.specs.Slots.{AreRising, AreSlots, component_of, next_component, first_slots}

-- each slot is at least the first one that may be
pub at_least : (low : ℕ) (live : List ℕ) → AreRising low live → (k : ℕ) → k < length live → low ≤ get_or live k 0
at_least low [] h k m = absurd (omega arith)
at_least low (slot ∷ live) h zero m = h.0
at_least low (slot ∷ live) h (suc k) m =
    let here : low ≤ slot = h.0 in
    let rest = at_least (slot + 1) live h.1 k (omega arith) in
    omega arith

-- they don't fall
pub in_order : (low : ℕ) (live : List ℕ) → AreRising low live → (i j : ℕ) → i ≤ j → j < length live → get_or live i 0 ≤ get_or live j 0
in_order low [] h i j le m = absurd (omega arith)
in_order low (slot ∷ live) h zero zero le m = omega arith
in_order low (slot ∷ live) h zero (suc j) le m =
    let rest = at_least (slot + 1) live h.1 j (omega arith) in
    omega arith
in_order low (slot ∷ live) h (suc i) zero le m = absurd (omega arith)
in_order low (slot ∷ live) h (suc i) (suc j) le m = in_order (slot + 1) live h.1 i j (omega arith) (omega arith)

-- they rise strictly
pub strictly : (low : ℕ) (live : List ℕ) → AreRising low live → (i j : ℕ) → i < j → j < length live → get_or live i 0 < get_or live j 0
strictly low [] h i j less m = absurd (omega arith)
strictly low (slot ∷ live) h zero zero less m = absurd (omega arith)
strictly low (slot ∷ live) h zero (suc j) less m =
    let rest = at_least (slot + 1) live h.1 j (omega arith) in
    omega arith
strictly low (slot ∷ live) h (suc i) zero less m = absurd (omega arith)
strictly low (slot ∷ live) h (suc i) (suc j) less m = strictly (slot + 1) live h.1 i j (omega arith) (omega arith)

pub lower : (low from : ℕ) (live : List ℕ) → low ≤ from → AreRising from live → AreRising low live
lower low from [] le h = tt
lower low from (slot ∷ live) le h = (let here : from ≤ slot = h.0 in omega arith, h.1)

pub rising_without : (low : ℕ) (live : List ℕ) (x : ℕ) → x < length live → AreRising low live → AreRising low (remove live x)
rising_without low [] x m h = absurd (omega arith)
rising_without low (slot ∷ live) zero m h = lower low (slot + 1) live (let here : low ≤ slot = h.0 in omega arith) h.1
rising_without low (slot ∷ live) (suc x) m h = (h.0, rising_without (slot + 1) live x (omega arith) h.1)

pub rising_with :
    (low next : ℕ) (live : List ℕ) → low ≤ next → ((x slot : ℕ) → slice_get live x ≡ Some slot → slot < next) → AreRising low live
    → AreRising low (live ++ next ∷ [])
rising_with low next [] le below h = (le, tt)
rising_with low next (slot ∷ live) le below h =
    let here : slot < next = below 0 slot refl in
    (h.0, rising_with (slot + 1) next live (omega arith) (λ x s e. below (suc x) s e) h.1)

-- where a slot stands
pub get_front : {A : Type 0} (xs : List A) (y : A) (i : ℕ) (z : A) → slice_get (xs ++ y ∷ []) i ≡ Some z
    → ((i < length xs) × (slice_get xs i ≡ Some z)) ⊎ ((i ≡ length xs) × (y ≡ z))
get_front [] y zero z e = inr (refl, (let same : y ≡ z = cc in same))
get_front [] y (suc i) z e = cc
get_front (x ∷ xs) y zero z e = inl (omega arith, e)
get_front (x ∷ xs) y (suc i) z e = elim (get_front xs y i z e) [
  | inl h ↦ inl (let m = h.0 in omega arith, h.1)
  | inr h ↦ inr (ap suc h.0, h.1)
]

pub get_without : {A : Type 0} (xs : List A) (x i : ℕ) (z : A) → x < length xs → slice_get (remove xs x) i ≡ Some z
    → ((i < x) × (slice_get xs i ≡ Some z)) ⊎ ((x ≤ i) × (slice_get xs (suc i) ≡ Some z))
get_without [] x i z m e = absurd (omega arith)
get_without (y ∷ xs) zero i z m e = inr (omega arith, e)
get_without (y ∷ xs) (suc x) zero z m e = inl (omega arith, e)
get_without (y ∷ xs) (suc x) (suc i) z m e = elim (get_without xs x i z (omega arith) e) [
  | inl h ↦ inl (let k = h.0 in omega arith, h.1)
  | inr h ↦ inr (let k = h.0 in omega arith, h.1)
]

-- a slot below all that there are
pub component_none : (low : ℕ) (live : List ℕ) (slot : ℕ) → AreRising low live → slot < low → component_of live slot ≡ None
component_none low [] slot h m = refl
component_none low (first ∷ live) slot h m =
    let here : low ≤ first = h.0 in
    by (component_none (first + 1) live slot h.1 (omega arith)) (slot == first) refl
  where
    by : component_of live slot ≡ None → (b : Bool) → (slot == first) ≡ b
        → cond b (Some 0) (next_component (component_of live slot)) ≡ None
    by rest true e =
        let same : slot ≡ first = (Decides-eqb slot first).0 e in
        let here : low ≤ first = h.0 in
        absurd (omega arith)
    by rest false e = ap next_component rest

-- the component with a slot that stands there
pub component_found : (low : ℕ) (live : List ℕ) (x slot : ℕ) → AreRising low live → slice_get live x ≡ Some slot → component_of live slot ≡ Some x
component_found low [] x slot h e = cc
component_found low (first ∷ live) zero slot h e =
    let same : first ≡ slot = cc in
    ap (λ (b : Bool). cond b (Some 0) (next_component (component_of live slot))) ((Decides-eqb slot first).1 (sym same))
component_found low (first ∷ live) (suc x) slot h e =
    by (component_found (first + 1) live x slot h.1 e) (slot == first) refl
  where
    by : component_of live slot ≡ Some x → (b : Bool) → (slot == first) ≡ b
        → cond b (Some 0) (next_component (component_of live slot)) ≡ Some (suc x)
    by rest true is =
        let same : slot ≡ first = (Decides-eqb slot first).0 is in
        let later = at_least (first + 1) live h.1 x (slice_get_within live x slot e) in
        let there = get_or_from_slice_get live x slot 0 e in
        absurd (omega arith)
    by rest false is = ap next_component rest

low_first : (slot first : ℕ) → (slot ≡ first → ⊥) → slot ≤ first → slot + 1 ≤ first
low_first slot first n le = grind arith

-- a slot that doesn't stand where it would
pub component_absent :
    (low : ℕ) (live : List ℕ) (slot place : ℕ) → AreRising low live → ((k : ℕ) → k < place → get_or live k 0 < slot)
    → ((k : ℕ) → place ≤ k → k < length live → slot ≤ get_or live k 0)
    → ((first : ℕ) → slice_get live place ≡ Some first → slot ≡ first → ⊥) → component_of live slot ≡ None
component_absent low [] slot place h before here other = refl
component_absent low (first ∷ live) slot zero h before here other =
    let from : slot ≤ first = here 0 (omega arith) (omega arith) in
    component_none (slot + 1) (first ∷ live) slot (low_first slot first (λ same. other first refl same) from, h.1) (omega arith)
component_absent low (first ∷ live) slot (suc place) h before here other =
    let rest = component_absent (first + 1) live slot place h.1 (λ k m. before (suc k) (omega arith)) (λ k m n. here (suc k) (omega arith) (omega arith)) other in
    by rest (slot == first) refl (before 0 (omega arith))
  where
    by : component_of live slot ≡ None → (b : Bool) → (slot == first) ≡ b → first < slot
        → cond b (Some 0) (next_component (component_of live slot)) ≡ None
    by rest true e less = let same : slot ≡ first = (Decides-eqb slot first).0 e in absurd (omega arith)
    by rest false e less = ap next_component rest

-- different components have different slots
pub one_component : (live : List ℕ) (x y slot : ℕ) → AreRising 0 live → slice_get live x ≡ Some slot → slice_get live y ≡ Some slot → x ≡ y
one_component live x y slot h e f =
    let same : ◌≡◌ {A = Option ℕ} (Some x) (Some y) = sym (component_found 0 live x slot h e) ∙ component_found 0 live y slot h f in
    cc

-- the first slots
pub first_length : (n : ℕ) → length (first_slots n) ≡ n
first_length zero = refl
first_length (suc n) = let h = first_length n in omega (arith, length-append (first_slots n) (n ∷ []))

pub first_below : (n x slot : ℕ) → slice_get (first_slots n) x ≡ Some slot → slot < n
first_below zero x slot e = cc
first_below (suc n) x slot e = elim (get_front (first_slots n) n x slot e) [
  | inl h ↦ (let m = first_below n x slot h.1 in omega arith)
  | inr h ↦ (let same : n ≡ slot = h.1 in omega arith)
]

pub first_rising : (n : ℕ) → AreRising 0 (first_slots n)
first_rising zero = tt
first_rising (suc n) = rising_with 0 n (first_slots n) (omega arith) (λ x slot e. first_below n x slot e) (first_rising n)

pub first_are_slots : (l : Library) (n : ℕ) → n ≡ length l.components → AreSlots l (first_slots n) n
first_are_slots l n e = record {
  rising = first_rising n;
  below = λ x slot f. first_below n x slot f;
  even = first_length n ∙ e;
}

-- the slots once a component was added
pub slots_with : (l m : Library) (live : List ℕ) (next : ℕ) (c : Component) → m.components ≡ l.components ++ c ∷ [] → AreSlots l live next → AreSlots m (live ++ next ∷ []) (next + 1)
slots_with l m live next c e h = record {
  rising = rising_with 0 next live (omega arith) h.below h.rising;
  below = λ x slot f. below slot (get_front live next x slot f);
  even =
      let more = length-append live (next ∷ []) in
      let longer = length-append l.components (c ∷ []) in
      let same : length live ≡ length l.components = h.even in
      let count = ap (λ (cs : List Component). length cs) e in
      omega arith;
}
  where
    below : {x : ℕ} (slot : ℕ) → ((x < length live) × (slice_get live x ≡ Some slot)) ⊎ ((x ≡ length live) × (next ≡ slot)) → slot < next + 1
    below {x} slot (inl k) = let m = h.below x slot k.1 in omega arith
    below slot (inr k) = let same : next ≡ slot = k.1 in omega arith

-- the slots once a component was taken out
pub slots_without :
    (l m : Library) (live : List ℕ) (next x : ℕ) → x < length l.components → m.components ≡ remove l.components x → AreSlots l live next
    → AreSlots m (remove live x) next
slots_without l m live next x d e h = record {
  rising = rising_without 0 live x within h.rising;
  below = λ y slot f. below y slot (get_without live x y slot within f);
  even =
      let few = length-remove live x within in
      let fewer = length-remove l.components x d in
      let count = ap (λ (cs : List Component). length cs) e in
      let same : length live ≡ length l.components = h.even in
      omega arith;
}
  where
    within : x < length live
    within = let same : length live ≡ length l.components = h.even in omega arith

    below : (y slot : ℕ) → ((y < x) × (slice_get live y ≡ Some slot)) ⊎ ((x ≤ y) × (slice_get live (suc y) ≡ Some slot)) → slot < next
    below y slot (inl k) = h.below y slot k.1
    below y slot (inr k) = h.below (suc y) slot k.1
