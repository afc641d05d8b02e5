-- The numbers of the pairs that are kept.
use Rattle.std.proofs.Common.{◌≡◌, ℕ, zero, suc, ◌+◌, ◌^◌, ◌<◌, ◌≤◌, Bool, true, false, cond, List, [], ◌∷◌, ◌++◌, Some, None, length, get_or, take, refl, ap, subst, ◌∙◌, inl, inr, arith, length-append}
use Rattle.std.proofs.lemmas.Bool.{false≢true, cases_lt}
use Rattle.std.proofs.lemmas.List.{take_more, take_all, get_or_append_left, get_or_push}
use Rattle.cls_filtered.specs.Filtered.{count_true, pair_of}
use Rattle.cls_filtered.specs.Makings.{AreNodes, kept_node}

count-append : (xs ys : List Bool) → count_true (xs ++ ys) ≡ count_true xs + count_true ys
count-append [] ys = omega arith
count-append (true ∷ xs) ys = omega (arith, count-append xs ys)
count-append (false ∷ xs) ys = count-append xs ys

count-one_flag : (b : Bool) → count_true (b ∷ []) ≡ cond b 1 0
count-one_flag true = refl
count-one_flag false = refl

-- one flag more
pub count-next : (flags : List Bool) (i : ℕ) → i < length flags → count_true (take (i + 1) flags) ≡ count_true (take i flags) + cond (get_or flags i false) 1 0
count-next flags i l =
    let b = get_or flags i false in
    let more = ap count_true (take_more flags i false l) in
    omega (arith, more, count-append (take i flags) (b ∷ []), count-one_flag b)

after-one : (b : Bool) (n : ℕ) → cond b (n + 1) n ≡ n + cond b 1 0
after-one true n = refl
after-one false n = omega arith

-- The first i pairs have their numbers, and next is that of the next one.
pub record NumbersTo (flags : List Bool) (i : ℕ) (numbers : List ℕ) (n : ℕ) : Type 0 where
  pub within : i ≤ length flags
  pub sized : length numbers ≡ i
  pub each : (k : ℕ) → k < i → get_or numbers k 0 ≡ count_true (take k flags) + 1
  pub next : n ≡ count_true (take i flags) + 1
  pub few : n < 2 ^ 32

pub numbers-none : (flags : List Bool) (numbers : List ℕ) → numbers ≡ [] → NumbersTo flags 0 numbers 1
numbers-none flags numbers e = record {
  within = omega arith;
  sized = ap (λ (ns : List ℕ). length ns) e;
  each = λ k less. absurd (omega (arith, less));
  next = refl;
  few = omega arith;
}

pub numbers-more : (flags : List Bool) (i : ℕ) (numbers numbers' : List ℕ) (next next' : ℕ) → NumbersTo flags i numbers next → i < length flags → numbers' ≡ numbers ++ next ∷ [] → next' ≡ cond (get_or flags i false) (next + 1) next → next' < 2 ^ 32 → NumbersTo flags (i + 1) numbers' next'
numbers-more flags i numbers numbers' next next' h l e f few =
    let longer = ap (λ (ns : List ℕ). length ns) e in
    record {
      within = omega (arith, l);
      sized = omega (arith, longer, length-append numbers (next ∷ []), h.sized);
      each = λ k less. elim (cases_lt k i) [
        | inl below ↦
            ap (λ (ns : List ℕ). get_or ns k 0) e
            ∙ (get_or_append_left numbers (next ∷ []) 0 k (omega (arith, below, h.sized)) ∙ h.each k below)
        | inr past ↦ (
            let is : i ≡ k = omega (arith, less, past) in
            let here : get_or numbers' i 0 ≡ count_true (take i flags) + 1 = ap (λ (ns : List ℕ). get_or ns i 0) e ∙ (get_or_push numbers next 0 i h.sized ∙ h.next) in
            subst (λ (n : ℕ). get_or numbers' n 0 ≡ count_true (take n flags) + 1) is here)
      ];
      next = omega (arith, f, after-one (get_or flags i false) next, h.next, count-next flags i l);
      few = few;
    }

pub numbers-all : (flags : List Bool) (i : ℕ) (numbers : List ℕ) (next : ℕ) → NumbersTo flags i numbers next → length flags ≤ i → AreNodes flags numbers
numbers-all flags i numbers next h l =
    let same : i ≡ length flags = omega (arith, l, h.within) in
    (h.sized ∙ same, λ k less. h.each k (omega (arith, less, same)))

pub numbers-few : (flags : List Bool) (i : ℕ) (numbers : List ℕ) (next : ℕ) → NumbersTo flags i numbers next → length flags ≤ i → count_true flags + 1 < 2 ^ 32
numbers-few flags i numbers next h l = let whole = ap count_true (take_all i flags l) in omega (arith, whole, h.next, h.few)

-- a flag that is true stands in the list
pub up-within : (flags : List Bool) (k : ℕ) → get_or flags k false ≡ true → k < length flags
up-within [] k h = absurd (false≢true h)
up-within (b ∷ flags) zero h = omega arith
up-within (b ∷ flags) (suc k) h = let l = up-within flags k h in omega (arith, l)

pub kept-number : (flags : List Bool) (i q : ℕ) → cond (get_or flags (pair_of i q) false) (Some (count_true (take (pair_of i q) flags) + 1)) None ≡ kept_node flags i q
kept-number flags i q =
    let n = count_true (take (pair_of i q) flags) in
    ap (λ (m : ℕ). cond (get_or flags (pair_of i q) false) (Some m) None) (let e : n + 1 ≡ suc n = omega arith in e)
