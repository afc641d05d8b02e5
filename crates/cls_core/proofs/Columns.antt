-- The columns of the core: a state is written, rows are put behind the others, and the counts stay right.
use Rattle.std.proofs.Common.{◌≡◌, ◌≢◌, ℕ, zero, suc, ◌+◌, ◌-◌, ◌^◌, ◌<◌, ◌≤◌, ◌==◌, Bool, true, false, List, [], ◌∷◌, ◌++◌, Some, length, set, length-set, length-append, slice_get, refl, sym, ap, subst, ◌∙◌, arith, get_or-set_same, ◌⊎◌, inl, inr, nat_lt}
use Rattle.std.proofs.lemmas.Bool.Decides.{nat_tests}
use Rattle.std.specs.Prelude.{replicate}
use Rattle.std.specs.List.{sum_by}
use Rattle.std.proofs.lemmas.List.{length-replicate}
use Rattle.std.proofs.lemmas.List.Sums.{sum_by-set, sum_by-append, sum_by-cons}
use Rattle.std.proofs.lemmas.List.Folds.{sum_by-replicate}
use Rattle.std.proofs.lemmas.Option.{slice_get_within, slice_get_read, get_or_from_slice_get}
use Rattle.cls_core.specs.declared.state.RowState.{RowState}
use Rattle.cls_core.specs.declared.state.RowState.TheVariants.{Free, Held, Filed}
use Rattle.cls_core.specs.declared.entry.Entry.{Entry}
use Rattle.cls_core.specs.declared.answer.Answer.{Answer}
use Rattle.cls_core.specs.Arguments.{rule_count}
use Rattle.cls_core.specs.Machine.{held_weight, rules_weight, held_in, rules_in}
use Rattle.cls_core.specs.Rows.{machine}
use Rattle.cls_core.specs.Consistency.{IsConsistent}

module _ {A : Type 0} where
  pub get-set-same : (xs : List A) (i : ℕ) (v : A) → i < length xs → slice_get (set xs i v) i ≡ Some v
  get-set-same xs i v h =
      slice_get_read (set xs i v) (length xs) i v (sym (length-set xs i v)) h (sym (get_or-set_same xs i v v h))

  pub get-set-other : (xs : List A) (i j : ℕ) (v : A) → j ≢ i → slice_get (set xs i v) j ≡ slice_get xs j
  get-set-other [] i j v h = refl
  get-set-other (x ∷ xs) zero zero v h = absurd (h refl)
  get-set-other (x ∷ xs) zero (suc j) v h = refl
  get-set-other (x ∷ xs) (suc i) zero v h = refl
  get-set-other (x ∷ xs) (suc i) (suc j) v h = get-set-other xs i j v (λ e. h (ap suc e))

  pub get-front : (xs ys : List A) (i : ℕ) (x : A) → slice_get xs i ≡ Some x → slice_get (xs ++ ys) i ≡ Some x
  get-front [] ys i x e = cc
  get-front (y ∷ xs) ys zero x e = e
  get-front (y ∷ xs) ys (suc i) x e = get-front xs ys i x e

  pub get-within : (xs ys : List A) (i : ℕ) → i < length xs → slice_get (xs ++ ys) i ≡ slice_get xs i
  get-within [] ys i h = absurd (omega arith)
  get-within (x ∷ xs) ys zero h = refl
  get-within (x ∷ xs) ys (suc i) h = get-within xs ys i (omega arith)

  pub get-behind : (xs ys : List A) (i : ℕ) → length xs ≤ i → slice_get (xs ++ ys) i ≡ slice_get ys (i - length xs)
  get-behind [] ys i h = ap (slice_get ys) (omega arith)
  get-behind (x ∷ xs) ys zero h = absurd (omega arith)
  get-behind (x ∷ xs) ys (suc i) h = get-behind xs ys i (omega arith) ∙ ap (slice_get ys) (omega arith)

  pub get-some : (xs : List A) (i : ℕ) → i < length xs → (x : A) × (slice_get xs i ≡ Some x)
  get-some [] i h = absurd (omega arith)
  get-some (x ∷ xs) zero h = (x, refl)
  get-some (x ∷ xs) (suc i) h = get-some xs i (omega arith)

  pub some-inside : (x y : A) → Some x ≡ Some y → x ≡ y
  some-inside x y e = cc

-- a number below n + 1 is below n, or n itself
pub lt-split : (n i : ℕ) → i < n + 1 → (i < n) ⊎ (i ≡ n)
lt-split n i h = by (nat_lt i n) refl
  where
    by : (b : Bool) → nat_lt i n ≡ b → (i < n) ⊎ (i ≡ n)
    by true e = inl (grind (arith, nat_tests))
    by false e = inr (grind (arith, nat_tests))

pub held-some : (ss : List RowState) → 0 < held_in ss → (row : ℕ) × (worker : ℕ) × (slice_get ss row ≡ Some (Held worker))
held-some [] h = absurd (omega arith)
held-some (Free ∷ ss) h = let r = held-some ss (omega (arith, sum_by-cons held_weight Free ss)) in (suc r.0, r.1, r.2)
held-some (Held worker ∷ ss) h = (zero, worker, refl)
held-some (Filed a ∷ ss) h = let r = held-some ss (omega (arith, sum_by-cons held_weight (Filed a) ss)) in (suc r.0, r.1, r.2)

pub held-counts : (ss : List RowState) (row worker : ℕ) → slice_get ss row ≡ Some (Held worker) → 0 < held_in ss
held-counts [] row worker e = cc
held-counts (s ∷ ss) zero worker e = let is : s ≡ Held worker = cc in omega (arith, sum_by-cons held_weight s ss, ap held_weight is)
held-counts (s ∷ ss) (suc row) worker e = let h = held-counts ss row worker e in omega (arith, sum_by-cons held_weight s ss)

-- what a count becomes when one state is written
count-set : (f : RowState → ℕ) (ss : List RowState) (row : ℕ) (was now : RowState) → slice_get ss row ≡ Some was
    → sum_by f (set ss row now) + f was ≡ sum_by f ss + f now
count-set f ss row was now e =
    subst (λ s. sum_by f (set ss row now) + f s ≡ sum_by f ss + f now) (get_or_from_slice_get ss row was was e) (sum_by-set f ss row now was (slice_get_within ss row was e))

module _ {G : Type 0} (goals : List G) (states : List RowState) (first held rules room : ℕ) (history : List Entry) where
  pub kept-claim : (row worker next more : ℕ) (entry : Entry) (after : List Entry)
      → IsConsistent (machine goals states) first held rules history room
      → slice_get states row ≡ Some Free → after ≡ history ++ entry ∷ [] → length history + (held + 2) ≤ more
      → (next ≡ first) ⊎ ((next ≡ first + 1) × (row ≡ first))
      → IsConsistent (machine goals (set states row (Held worker))) next (held + 1) rules after more
  kept-claim row worker next more entry after k free is wide step = record {
    paired = length-set states row (Held worker) ∙ k.paired;
    small = k.small;
    none_free_below = taken_after step;
    first_within = within_after step;
    held_counted = let n = count-set held_weight states row Free (Held worker) free in omega (arith, k.held_counted);
    rules_counted = let n = count-set rules_weight states row Free (Held worker) free in omega (arith, k.rules_counted);
    entries_fit = omega (arith, ap length is, length-append history (entry ∷ []));
  }
    where
      claimed_row : slice_get (set states row (Held worker)) row ≢ Some Free
      claimed_row e = let h = get-set-same states row (Held worker) (slice_get_within states row Free free) in cc

      other_row : (k : ℕ) → k < first → slice_get (set states row (Held worker)) k ≢ Some Free
      other_row i h e =
          k.none_free_below i h (sym (get-set-other states row i (Held worker) (λ same. k.none_free_below i h (subst (λ r. slice_get states r ≡ Some Free) (sym same) free))) ∙ e)

      taken_after : (next ≡ first) ⊎ ((next ≡ first + 1) × (row ≡ first)) → (i : ℕ) → i < next
          → slice_get (set states row (Held worker)) i ≢ Some Free
      taken_after (inl same) i h = other_row i (omega arith)
      taken_after (inr on) i h = cases (lt-split first i (omega arith))
        where
          cases : (i < first) ⊎ (i ≡ first) → slice_get (set states row (Held worker)) i ≢ Some Free
          cases (inl l) = other_row i l
          cases (inr e) = λ f. claimed_row (subst (λ r. slice_get (set states row (Held worker)) r ≡ Some Free) (e ∙ sym on.1) f)

      within_after : (next ≡ first) ⊎ ((next ≡ first + 1) × (row ≡ first)) → next ≤ length (set states row (Held worker))
      within_after (inl same) = omega (arith, length-set states row (Held worker), k.first_within)
      within_after (inr on) = omega (arith, length-set states row (Held worker), slice_get_within states row Free free)

module _ {G : Type 0} (goals : List G) (states : List RowState) (first held rules room : ℕ) (history : List Entry) where
  -- a filing: rows are put behind the others, and the state of one is written
  pub kept-file : (row worker n : ℕ) (a : Answer ℕ) (more : List G) (behind : List RowState) (entry : Entry) (after : List Entry)
      → IsConsistent (machine goals states) first held rules history room
      → slice_get states row ≡ Some (Held worker) → length more ≡ length goals + n → length more < 2 ^ 32 → behind ≡ states ++ replicate n Free → after ≡ history ++ entry ∷ []
      → (now total wide : ℕ) → now + 1 ≡ held → total ≡ rules + rule_count a → wide ≡ room
      → IsConsistent (machine more (set behind row (Filed a))) first now total after wide
  kept-file row worker n a more behind entry after k is_held grows small are is now total wide less sums same = record {
    paired = omega (arith, length-set behind row (Filed a), long, k.paired);
    small = small;
    none_free_below = λ i h. untaken i h;
    first_within = omega (arith, length-set behind row (Filed a), long, k.first_within);
    held_counted =
        (let c = count-set held_weight behind row (Held worker) (Filed a) there in
        omega (arith, k.held_counted, ap held_in are, sum_by-append held_weight states (replicate n Free), sum_by-replicate held_weight n Free));
    rules_counted =
        (let c = count-set rules_weight behind row (Held worker) (Filed a) there in
        omega (arith, k.rules_counted, ap rules_in are, sum_by-append rules_weight states (replicate n Free), sum_by-replicate rules_weight n Free));
    entries_fit = omega (arith, ap length is, length-append history (entry ∷ []), k.entries_fit);
  }
    where
      long : length behind ≡ length states + n
      long = omega (arith, ap length are, length-append states (replicate n Free), length-replicate n Free)

      there : slice_get behind row ≡ Some (Held worker)
      there =
          subst (λ l. slice_get l row ≡ Some (Held worker)) (sym are) (get-front states (replicate n Free) row (Held worker) is_held)

      untaken : (i : ℕ) → i < first → slice_get (set behind row (Filed a)) i ≢ Some Free
      untaken i h = by (i == row) refl
        where
          by : (b : Bool) → (i == row) ≡ b → slice_get (set behind row (Filed a)) i ≢ Some Free
          by true e f =
              let same : i ≡ row = grind (arith, nat_tests) in
              let w = get-set-same behind row (Filed a) (slice_get_within behind row (Held worker) there) in
              let v : slice_get (set behind row (Filed a)) row ≡ Some Free = subst (λ r. slice_get (set behind row (Filed a)) r ≡ Some Free) same f in
              cc
          by false e f =
              let other : i ≢ row = grind (arith, nat_tests) in
              let at : slice_get behind i ≡ slice_get states i = ap (λ l. slice_get l i) are ∙ get-within states (replicate n Free) i (omega (arith, k.first_within)) in
              k.none_free_below i h (sym at ∙ (sym (get-set-other behind row i (Filed a) other) ∙ f))

-- a claim leaves the count of rules
pub claimed-counts : (ss : List RowState) (row worker : ℕ) → slice_get ss row ≡ Some Free
    → rules_in (set ss row (Held worker)) ≡ rules_in ss
claimed-counts ss row worker free = let n = count-set rules_weight ss row Free (Held worker) free in omega arith

-- a filing adds the rules of its answer
pub filed-counts : (ss : List RowState) (row worker n : ℕ) (a : Answer ℕ) → slice_get ss row ≡ Some (Held worker)
    → rules_in (set ss row (Filed a) ++ replicate n Free) ≡ rules_in ss + rule_count a
filed-counts ss row worker n a held =
    let c = count-set rules_weight ss row (Held worker) (Filed a) held in
    omega (arith, sum_by-append rules_weight (set ss row (Filed a)) (replicate n Free), sum_by-replicate rules_weight n Free)
