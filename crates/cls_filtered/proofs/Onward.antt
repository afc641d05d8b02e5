-- What is known of states goes on: one flag more, and one thing after another.
use Rattle.std.proofs.Common.{◌≡◌, ℕ, zero, suc, ◌+◌, ◌*◌, ◌<◌, ◌≤◌, Bool, true, false, List, [], ◌∷◌, ◌++◌, Option, Some, None, length, get_or, set, replicate, refl, sym, ap, subst, ◌∙◌, inl, inr, ◌⊎◌, arith, length-append}
use Rattle.std.specs.Prelude.{IfSome, option_to_list}
use Rattle.std.proofs.lemmas.Bool.{true≢false, false≢true, cases_eq}
use Rattle.std.proofs.lemmas.List.{length-set, length-replicate, get_or-set_same, get_or-set_other}
use Rattle.cls_base.specs.Limits.{max_states}
use Rattle.cls_base.specs.declared.rule.Rule.{Rule}
use Rattle.cls_filter.specs.Automata.{Automaton}
use Rattle.cls_filtered.specs.Filtered.{pair_of, HasState, count_true}
use Rattle.cls_filtered.specs.States.{Known, is_known, reached, work_left, IsOnward, IsSound}

pub count-set : (flags : List Bool) (k : ℕ) → k < length flags → get_or flags k false ≡ false → count_true (set flags k true) ≡ count_true flags + 1
count-set [] k l h = absurd (omega (arith, l))
count-set (true ∷ flags) zero l h = absurd (true≢false h)
count-set (false ∷ flags) zero l h = omega arith
count-set (true ∷ flags) (suc k) l h = let e = count-set flags k (omega (arith, l)) h in omega (arith, e)
count-set (false ∷ flags) (suc k) l h = count-set flags k (omega (arith, l)) h

pub count-most : (flags : List Bool) → count_true flags ≤ length flags
count-most [] = omega arith
count-most (true ∷ flags) = omega (arith, count-most flags)
count-most (false ∷ flags) = omega (arith, count-most flags)

pub count-none : (n : ℕ) → count_true (replicate n false) ≡ 0
count-none zero = refl
count-none (suc n) = count-none n

-- where nothing is known, all that is known is so
pub sound-none : (a : Automaton) (book : List (List (Rule ℕ))) (flags : List Bool) → flags ≡ replicate (length book * max_states) false → IsSound a book flags
sound-none a book flags e = record {
  count = ap (λ (fs : List Bool). length fs) e ∙ length-replicate (length book * max_states) false;
  has = λ i q l m h. absurd (false≢true (sym (ap (λ (fs : List Bool). get_or fs (pair_of i q) false) e ∙ none (length book * max_states) (pair_of i q)) ∙ h));
}
  where
    none : (n k : ℕ) → get_or (replicate n false) k false ≡ false
    none zero k = refl
    none (suc n) zero = refl
    none (suc n) (suc k) = none n k

pub onward-same : (s : Known) → IsOnward s s
onward-same s = record { sized = refl; kept = λ k h. h; same_or_more = inl refl; less = omega arith }

-- no less is known
pub onward-count : (s t : Known) → IsOnward s t → count_true s.flags ≤ count_true t.flags
onward-count s t h = by h.same_or_more
  where
    by : (t ≡ s) ⊎ (count_true s.flags < count_true t.flags) → count_true s.flags ≤ count_true t.flags
    by (inl e) = let c = ap (λ (u : Known). count_true u.flags) e in omega (arith, c)
    by (inr l) = omega (arith, l)

pub onward-then : (s t u : Known) → IsOnward s t → IsOnward t u → IsOnward s u
onward-then s t u h k = record {
  sized = k.sized ∙ h.sized;
  kept = λ n e. k.kept n (h.kept n e);
  same_or_more = by h.same_or_more k.same_or_more;
  less = omega (arith, h.less, k.less);
}
  where
    by : (t ≡ s) ⊎ (count_true s.flags < count_true t.flags) → (u ≡ t) ⊎ (count_true t.flags < count_true u.flags) → (u ≡ s) ⊎ (count_true s.flags < count_true u.flags)
    by (inl e) (inl f) = inl (f ∙ e)
    by (inl e) (inr l) = inr (let c = ap (λ (v : Known). count_true v.flags) e in omega (arith, c, l))
    by (inr l) m = inr (let c = onward-count t u k in omega (arith, c, l))

-- where nothing changed at the end, nothing changed on the way
pub onward-both : (s t u : Known) → IsOnward s t → IsOnward t u → u ≡ s → (t ≡ s) × (u ≡ t)
onward-both s t u h k e = by h.same_or_more
  where
    by : (t ≡ s) ⊎ (count_true s.flags < count_true t.flags) → (t ≡ s) × (u ≡ t)
    by (inl f) = (f, e ∙ sym f)
    by (inr l) = absurd (let c = ap (λ (v : Known). count_true v.flags) e in omega (arith, c, l, onward-count t u k))

-- where as many flags are true, nothing changed
pub onward-unchanged : (s t : Known) → IsOnward s t → count_true t.flags ≡ count_true s.flags → t ≡ s
onward-unchanged s t h e = by h.same_or_more
  where
    by : (t ≡ s) ⊎ (count_true s.flags < count_true t.flags) → t ≡ s
    by (inl f) = f
    by (inr l) = absurd (omega (arith, e, l))

pub onward-reached : (s : Known) (i q : ℕ) → pair_of i q < length s.flags → is_known s.flags i q ≡ false → IsOnward s (reached s i q)
onward-reached s i q l h =
    let k = pair_of i q in
    let more = count-set s.flags k l h in
    let size = length-set s.flags k true in
    let most = count-most (set s.flags k true) in
    let longer = length-append s.changed (i ∷ []) in
    record {
      sized = size;
      kept = λ n e. elim (cases_eq n k) [
        | inl f ↦ subst (λ (m : ℕ). get_or (set s.flags k true) m false ≡ true) (sym f) (get_or-set_same s.flags k true false l)
        | inr f ↦ get_or-set_other s.flags k n true false f ∙ e
      ];
      same_or_more = inr (omega (arith, more));
      less = omega (arith, more, size, most, longer);
    }

-- a flag that is set for a term is sound
pub sound-reached : (a : Automaton) (book : List (List (Rule ℕ))) (s : Known) (i q : ℕ) → q < max_states → HasState book a i q → IsSound a book s.flags → IsSound a book (reached s i q).flags
sound-reached a book s i q m h sound =
    let k = pair_of i q in
    record {
      count = length-set s.flags k true ∙ sound.count;
      has = λ j p n o e. elim (cases_eq (pair_of j p) k) [
        | inl f ↦ (
            let same : j * 16 + p ≡ i * 16 + q = f in
            let node : i ≡ j = omega (arith, same, m, o) in
            let state : q ≡ p = omega (arith, same, m, o) in
            subst (λ (x : ℕ). HasState book a x p) node (subst (λ (y : ℕ). HasState book a i y) state h))
        | inr f ↦ sound.has j p n o (sym (get_or-set_other s.flags k (pair_of j p) true false f) ∙ e)
      ];
    }

-- a node that is taken off those that changed
pub turn-taken : (s t : Known) → t.flags ≡ s.flags → length t.changed < length s.changed → work_left t < work_left s
turn-taken s t e l = let c = ap count_true e in let n = ap (λ (fs : List Bool). length fs) e in omega (arith, c, n, l)

-- the last item is taken off, if there is one
pub popped-less : (o : Option ℕ) (xs ys : List ℕ) → xs ≡ ys ++ option_to_list o → IfSome o (λ _. length ys < length xs)
popped-less None xs ys e = tt
popped-less (Some x) xs ys e = let n = ap (λ (zs : List ℕ). length zs) e in omega (arith, n, length-append ys (x ∷ []))
