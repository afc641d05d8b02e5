-- Searches along lists.
use Rattle.std.proofs.Common.{suc, ◌≡◌, ℕ, ◌+◌, ◌<◌, ◌≤◌, Bool, true, false, cond, not, List, [], ◌∷◌, ◌++◌, length, refl, ap, sym, ◌∙◌, arith, inl, inr}
use Rattle.std.specs.Prelude.{Option, Some, None, MatchOption, is_some, nat_lt, find, position, ◌||◌}
use Rattle.std.specs.List.{list_any, position_or_len, AllByRecursion}
use Rattle.std.specs.Option.{option_map}
use Rattle.std.proofs.lemmas.Bool.{cases_lt, lt-ltb, le-ltb, ltb-true, true≢false}
use Rattle.std.proofs.lemmas.List.Folds.{list_any-append}

-- if neither holds, each doesn't
pub neither : (a b : Bool) → (a || b) ≡ false → (a ≡ false) × (b ≡ false)
neither true b h = absurd (true≢false h)
neither false b h = (refl, h)

-- the place in the second of two lists, of which the first has n elements
abbrev pub behind : ℕ → Option ℕ → Option ℕ
behind n o = option_map (λ i. n + i) o

abbrev first_place : ℕ → Option ℕ → Option ℕ → Option ℕ
first_place n None o = behind n o
first_place n (Some i) o = Some i

behind_none : (o : Option ℕ) → o ≡ behind 0 o
behind_none None = refl
behind_none (Some i) = ap (λ n. Some n) (omega arith)

abbrev pub some_or : {A : Type 0} → A → Option A → A
some_or d None = d
some_or d (Some a) = a

pub nothing_found : {A : Type 0} (a : A) → None ≡ Some a → ⊥
nothing_found a e = true≢false (sym (ap is_some e))

module _ {X : Type 0} (p : X → Bool) where
  pub both_none : (xs ys : List X) → list_any p xs ≡ false → list_any p ys ≡ false → list_any p (xs ++ ys) ≡ false
  both_none xs ys a b = list_any-append p xs ys ∙ (λ i. a i || b i)

  pub find_none : (xs : List X) → list_any p xs ≡ false → find p xs ≡ None
  find_none [] h = refl
  find_none (x ∷ xs) h =
      (elim (p x) as (λ b. (b || list_any p xs) ≡ false → cond b (Some x) (find p xs) ≡ None) [ true ↦ λ k. absurd (true≢false k) | false ↦ λ k. find_none xs k ]) h

  -- what is found passes
  pub find_passes : (xs : List X) (x : X) → find p xs ≡ Some x → p x ≡ true
  find_passes [] x h = absurd (nothing_found x h)
  find_passes (y ∷ xs) x h =
      (elim (p y) as (λ b. p y ≡ b → cond b (Some y) (find p xs) ≡ Some x → p x ≡ true) [
        | true ↦ λ e k. ap p (sym (ap (some_or y) k)) ∙ e
        | false ↦ λ e k. find_passes xs x k
      ]) refl h

  found_at : (xs : List X) → position_or_len p xs < length xs → position p xs ≡ Some (position_or_len p xs)
  found_at xs l = ap (λ b. cond b (Some (position_or_len p xs)) None) (lt-ltb (position_or_len p xs) (length xs) l)

  found_none : (xs : List X) → length xs ≤ position_or_len p xs → position p xs ≡ None
  found_none xs l = ap (λ b. cond b (Some (position_or_len p xs)) None) (le-ltb (position_or_len p xs) (length xs) l)

  -- a place that was found is in the list
  pub place_inside : (xs : List X) (i : ℕ) → position p xs ≡ Some i → i < length xs
  place_inside xs i h =
      (elim (nat_lt (position_or_len p xs) (length xs)) as (λ b. nat_lt (position_or_len p xs) (length xs) ≡ b → cond b (Some (position_or_len p xs)) None ≡ Some i → i < length xs) [
        | true ↦ λ t e. let is : position_or_len p xs ≡ i = ap (some_or i) e in let l = ltb-true (position_or_len p xs) (length xs) t in omega (arith, is, l)
        | false ↦ λ t e. absurd (nothing_found i e)
      ]) refl h

  place_yes : (x : X) (xs : List X) → p x ≡ true → position p (x ∷ xs) ≡ Some 0
  place_yes x xs h =
      let e : position_or_len p (x ∷ xs) ≡ 0 = ap (λ b. cond (not b) (1 + position_or_len p xs) 0) h in
      found_at (x ∷ xs) (omega (arith, e)) ∙ ap (λ n. Some n) e

  place_no : (x : X) (xs : List X) → p x ≡ false → position p (x ∷ xs) ≡ behind 1 (position p xs)
  place_no x xs h =
      let e : position_or_len p (x ∷ xs) ≡ 1 + position_or_len p xs = ap (λ b. cond (not b) (1 + position_or_len p xs) 0) h in
      elim (cases_lt (position_or_len p xs) (length xs)) [
        | inl l ↦ found_at (x ∷ xs) (omega (arith, e, l)) ∙ (ap (λ n. Some n) e ∙ sym (ap (behind 1) (found_at xs l)))
        | inr g ↦ found_none (x ∷ xs) (omega (arith, e, g)) ∙ sym (ap (behind 1) (found_none xs g))
      ]

  pub place_none : (xs : List X) → list_any p xs ≡ false → position p xs ≡ None
  place_none [] h = refl
  place_none (x ∷ xs) h = let both = neither (p x) (list_any p xs) h in place_no x xs both.0 ∙ ap (behind 1) (place_none xs both.1)

  one_further : (n : ℕ) (a b : Option ℕ) → behind 1 (first_place n a b) ≡ first_place (suc n) (behind 1 a) b
  one_further n None None = refl
  one_further n None (Some j) = ap (λ k. Some k) (omega arith)
  one_further n (Some i) b = refl

  place_append : (xs ys : List X) → position p (xs ++ ys) ≡ first_place (length xs) (position p xs) (position p ys)
  place_append [] ys = behind_none (position p ys)
  place_append (x ∷ xs) ys =
      (elim (p x) as (λ b. p x ≡ b → position p (x ∷ (xs ++ ys)) ≡ first_place (length (x ∷ xs)) (position p (x ∷ xs)) (position p ys)) [
        | true ↦ λ h. place_yes x (xs ++ ys) h ∙ sym (ap (λ o. first_place (length (x ∷ xs)) o (position p ys)) (place_yes x xs h))
        | false ↦ λ h. place_no x (xs ++ ys) h ∙ (ap (behind 1) (place_append xs ys) ∙ (one_further (length xs) (position p xs) (position p ys) ∙ sym (ap (λ o. first_place (length (x ∷ xs)) o (position p ys)) (place_no x xs h))))
      ]) refl

  -- the place in the middle of a list, of which no other element passes
  pub place_within : (before middle rest : List X) → list_any p before ≡ false → list_any p rest ≡ false → position p (before ++ (middle ++ rest)) ≡ behind (length before) (position p middle)
  place_within before middle rest a b =
      place_append before (middle ++ rest)
      ∙ (ap (λ o. first_place (length before) o (position p (middle ++ rest))) (place_none before a)
      ∙ ap (behind (length before)) (place_append middle rest ∙ (ap (first_place (length middle) (position p middle)) (place_none rest b) ∙ nothing_more (length middle) (position p middle))))
    where
      nothing_more : (n : ℕ) (o : Option ℕ) → first_place n o None ≡ o
      nothing_more n None = refl
      nothing_more n (Some i) = refl

module _ {X : Type 0} (p q : X → Bool) where
  same_place_or_len : (xs : List X) → AllByRecursion (λ x. p x ≡ q x) xs → position_or_len p xs ≡ position_or_len q xs
  same_place_or_len [] h = refl
  same_place_or_len (x ∷ xs) h = λ i. cond (not (h.0 i)) (1 + same_place_or_len xs h.1 i) 0

  -- tests that agree on a list find the same place
  pub same_place : (xs : List X) → AllByRecursion (λ x. p x ≡ q x) xs → position p xs ≡ position q xs
  same_place xs h = rw (same_place_or_len xs h) refl

module _ {X : Type 0} (P : X → Type 0) where
  pub all_both : (xs ys : List X) → AllByRecursion P xs → AllByRecursion P ys → AllByRecursion P (xs ++ ys)
  all_both [] ys a b = b
  all_both (x ∷ xs) ys a b = (a.0, all_both xs ys a.1 b)

  pub all_first : (xs ys : List X) → AllByRecursion P (xs ++ ys) → AllByRecursion P xs
  all_first [] ys a = tt
  all_first (x ∷ xs) ys a = (a.0, all_first xs ys a.1)

  pub all_last : (xs ys : List X) → AllByRecursion P (xs ++ ys) → AllByRecursion P ys
  all_last [] ys a = a
  all_last (x ∷ xs) ys a = all_last xs ys a.1

-- of what is never something the first fact holds
pub match_none : {X : Type 0} (A : Type 0) (P : X → Type 0) (o : Option X) → ((x : X) → o ≡ Some x → ⊥) → MatchOption o A P → A
match_none A P None n h = h
match_none A P (Some x) n h = absurd (n x refl)

pub match_weaker : {X A B : Type 0} {P Q : X → Type 0} (o : Option X) → (A → B) → ((x : X) → P x → Q x) → MatchOption o A P → MatchOption o B Q
match_weaker None f g h = f h
match_weaker (Some x) f g h = g x h

-- what is never something is nothing
pub never_some : {A B : Type 0} (f : A → B) (o : Option A) → ((x : A) → o ≡ Some x → ⊥) → option_map f o ≡ None
never_some f None n = refl
never_some f (Some x) n = absurd (n x refl)
