-- Chains of places of one kind, made from the last place to the first.
use Rattle.std.proofs.Common.{◌≡◌, ℕ, zero, suc, ◌+◌, ◌<◌, ◌≤◌, ◌⊎◌, inl, inr, List, length, get_or, set, replicate, refl, sym, subst, ap, ◌∙◌, arith}
use Rattle.std.proofs.lemmas.List.{get_or-set_same, get_or-set_other, length-set, get_or-replicate, length-replicate}
use native.Mathlib.Decide.{ℕ_discrete}
use Rattle.cls_library.specs.Chains.{AreChained}

apart : (i m : ℕ) → m ≤ i → (i ≡ m) ⊎ (m + 1 ≤ i)
apart zero zero l = inl refl
apart zero (suc m) l = absurd (omega arith)
apart (suc i) zero l = inr (omega arith)
apart (suc i) (suc m) l = elim (apart i m (omega arith)) [ inl e ↦ inl (ap suc e) | inr k ↦ inr (omega arith) ]

-- no place yet
pub chained-none : (kinds : List ℕ) (count : ℕ) (firsts next : List ℕ) → firsts ≡ replicate count (length kinds) → next ≡ replicate (length kinds) (length kinds) → AreChained (length kinds) count kinds firsts next
chained-none kinds count firsts next e f = record {
  count_firsts = ap (λ (l : List ℕ). length l) e ∙ length-replicate count (length kinds);
  count_next = ap (λ (l : List ℕ). length l) f ∙ length-replicate (length kinds) (length kinds);
  later = λ k l. let r = at k l in omega arith;
  starts = λ k l w. absurd (let r = at k l in omega arith);
  reached = λ i l m. absurd (omega arith);
  onward = λ i l m. absurd (omega arith);
  stays = λ i l m w. absurd (omega arith);
  passes = λ i j l b m s. absurd (omega arith);
}
  where
    at : (k : ℕ) → k < count → get_or firsts k 0 ≡ length kinds
    at k l = ap (λ (l : List ℕ). get_or l k 0) e ∙ get_or-replicate count k (length kinds) 0 l

-- one place more, before the others
module _ (m count : ℕ) (kinds firsts next : List ℕ) (h : AreChained (m + 1) count kinds firsts next) (within : m < length kinds) (below : get_or kinds m 0 < count) where
  abbrev kind : ℕ
  kind = get_or kinds m 0

  abbrev firsts' : List ℕ
  firsts' = set firsts kind m

  abbrev next' : List ℕ
  next' = set next m (get_or firsts kind 0)

  first-here : get_or firsts' kind 0 ≡ m
  first-here = get_or-set_same firsts kind m 0 (let e = h.count_firsts in omega arith)

  first-there : (k : ℕ) → (k ≡ kind → ⊥) → get_or firsts' k 0 ≡ get_or firsts k 0
  first-there k n = get_or-set_other firsts kind k m 0 n

  next-here : get_or next' m 0 ≡ get_or firsts kind 0
  next-here = get_or-set_same next m (get_or firsts kind 0) 0 (let e = h.count_next in omega arith)

  next-there : (i : ℕ) → m + 1 ≤ i → get_or next' i 0 ≡ get_or next i 0
  next-there i l = get_or-set_other next m i (get_or firsts kind 0) 0 (λ e. omega (arith, e, l))

  here-or-later : (i : ℕ) → m ≤ i → (i ≡ m) ⊎ (m + 1 ≤ i)
  here-or-later i l = apart i m l

  later' : (k : ℕ) → k < count → m ≤ get_or firsts' k 0
  later' k l = go (ℕ_discrete k kind)
    where
      go : Dec (k ≡ kind) → m ≤ get_or firsts' k 0
      go (yes e) = subst (λ (j : ℕ). m ≤ get_or firsts' j 0) (sym e) (let r = first-here in omega arith)
      go (no n) = let r = first-there k n in let s = h.later k l in omega arith

  starts' : (k : ℕ) → k < count → get_or firsts' k 0 < length kinds → get_or kinds (get_or firsts' k 0) 0 ≡ k
  starts' k l w = go (ℕ_discrete k kind)
    where
      go : Dec (k ≡ kind) → get_or kinds (get_or firsts' k 0) 0 ≡ k
      go (yes e) = ap (λ (j : ℕ). get_or kinds (get_or firsts' j 0) 0) e ∙ (ap (λ (j : ℕ). get_or kinds j 0) first-here ∙ sym e)
      go (no n) =
          let r = first-there k n in
          ap (λ (j : ℕ). get_or kinds j 0) r ∙ h.starts k l (subst (λ (j : ℕ). j < length kinds) r w)

  first' : (i : ℕ) → m ≤ i → i < length kinds → get_or firsts' (get_or kinds i 0) 0 ≤ i
  first' i l w = go (ℕ_discrete (get_or kinds i 0) kind)
    where
      go : Dec (get_or kinds i 0 ≡ kind) → get_or firsts' (get_or kinds i 0) 0 ≤ i
      go (yes e) = subst (λ (j : ℕ). get_or firsts' j 0 ≤ i) (sym e) (let r = first-here in omega arith)
      go (no n) = elim (here-or-later i l) [
        | inl e ↦ absurd (n (ap (λ (j : ℕ). get_or kinds j 0) e))
        | inr g ↦ (let r = first-there (get_or kinds i 0) n in let s = h.reached i g w in omega arith)
      ]

  onward' : (i : ℕ) → m ≤ i → i < length kinds → i < get_or next' i 0
  onward' i l w = elim (here-or-later i l) [
    | inl e ↦ subst (λ (j : ℕ). j < get_or next' j 0) (sym e) (let r = next-here in let s = h.later kind below in omega arith)
    | inr g ↦ (let r = next-there i g in let s = h.onward i g w in omega arith)
  ]

  stays' : (i : ℕ) → m ≤ i → i < length kinds → get_or next' i 0 < length kinds → get_or kinds (get_or next' i 0) 0 ≡ get_or kinds i 0
  stays' i l w v = elim (here-or-later i l) [
    | inl e ↦ subst (λ (j : ℕ). get_or next' j 0 < length kinds → get_or kinds (get_or next' j 0) 0 ≡ get_or kinds j 0) (sym e)
        (λ u. ap (λ (j : ℕ). get_or kinds j 0) next-here ∙ h.starts kind below (subst (λ (j : ℕ). j < length kinds) next-here u)) v
    | inr g ↦ (let r = next-there i g in ap (λ (j : ℕ). get_or kinds j 0) r ∙ h.stays i g w (subst (λ (j : ℕ). j < length kinds) r v))
  ]

  passes' : (i j : ℕ) → m ≤ i → i < j → j < length kinds → get_or kinds j 0 ≡ get_or kinds i 0 → get_or next' i 0 ≤ j
  passes' i j l b w s = elim (here-or-later i l) [
    | inl e ↦ subst (λ (x : ℕ). x < j → get_or kinds j 0 ≡ get_or kinds x 0 → get_or next' x 0 ≤ j) (sym e)
        (λ c d.
        let f : get_or firsts (get_or kinds j 0) 0 ≤ j = h.reached j (omega (arith, c)) w in
        let g : get_or firsts kind 0 ≤ j = subst (λ (x : ℕ). get_or firsts x 0 ≤ j) d f in
        let r = next-here in omega arith) b s
    | inr g ↦ (let r = next-there i g in let t = h.passes i j g b w s in omega arith)
  ]

  pub chained-more : AreChained m count kinds firsts' next'
  chained-more = record {
    count_firsts = length-set firsts kind m ∙ h.count_firsts;
    count_next = length-set next m (get_or firsts kind 0) ∙ h.count_next;
    later = later';
    starts = starts';
    reached = first';
    onward = onward';
    stays = stays';
    passes = passes';
  }
