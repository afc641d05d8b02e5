-- Goals of rows that are put behind others, and the rows that add one.
use Rattle.std.proofs.Common.{◌≡◌, ℕ, zero, suc, ◌+◌, ◌<◌, ◌≤◌, Bool, true, false, List, [], ◌∷◌, ◌++◌, Option, None, Some, length, take, get_or, slice_get, refl, sym, ap, subst, ◌∙◌, arith, append_assoc, append-nil, length-append, if◌then◌else◌, cond, not, ◌||◌}
use Rattle.std.specs.Prelude.{option_map}
use Rattle.std.specs.List.{list_any, position_or_len}
use Rattle.std.proofs.lemmas.List.{take-map}
use Rattle.indexmap.specs.IndexSet.{insert_key, insert_all}
use Rattle.cls_core.specs.declared.answer.Answer.{Answer}
use Rattle.cls_core.specs.Closure.{goals_of}
use Rattle.cls_core.specs.Numbers.{numbers_from}
use Rattle.cls_core.specs.Rows.{Row}
use Rattle.cls_core.proofs.Columns.{some-inside}
use Rattle.cls_core.proofs.Insertion.{all-append, all-front}
use Rattle.cls_expand.specs.Memos.{newcomers}

module _ {G : Type 0} where
  pub goals-count : (rows : List (Row G)) → length (goals_of rows) ≡ length rows
  goals-count [] = refl
  goals-count (r ∷ rows) = ap suc (goals-count rows)

  after-row : (rows : List (Row G)) (i : ℕ) (r : Row G) → slice_get rows i ≡ Some r
      → (take (suc i) rows ≡ take i rows ++ r ∷ []) × (take (suc i) (goals_of rows) ≡ take i (goals_of rows) ++ r.goal ∷ []) × (slice_get (goals_of rows) i ≡ Some r.goal)
  after-row [] i r e = cc
  after-row (q ∷ rows) zero r e =
      let same : q ≡ r = cc in
      (ap (λ y. y ∷ []) same, ap (λ (y : Row G). y.goal ∷ []) same, ap (λ (y : Row G). Some y.goal) same)
  after-row (q ∷ rows) (suc i) r e =
      let h = after-row rows i r e in
      (ap (λ l. q ∷ l) h.0, ap (λ l. q.goal ∷ l) h.1, h.2)

  -- the rows up to the one behind this one, and their goals
  pub up-to : (rows : List (Row G)) (i : ℕ) (r : Row G) → slice_get rows i ≡ Some r
      → (take (i + 1) rows ≡ take i rows ++ r ∷ []) × (take (i + 1) (goals_of rows) ≡ take i (goals_of rows) ++ r.goal ∷ []) × (slice_get (goals_of rows) i ≡ Some r.goal)
  up-to rows i r e =
      subst (λ n. (take n rows ≡ take i rows ++ r ∷ []) × (take n (goals_of rows) ≡ take i (goals_of rows) ++ r.goal ∷ []) × (slice_get (goals_of rows) i ≡ Some r.goal)) (let s : suc i ≡ i + 1 = omega arith in s) (after-row rows i r e)

  pub with-goal : (o : Option (Row G)) (x : G) → option_map (λ (r : Row G). r.goal) o ≡ Some x → (r : Row G) × (r.goal ≡ x) × (o ≡ Some r)
  with-goal None x e = cc
  with-goal (Some r) x e = (r, (let same : r.goal ≡ x = cc in same), refl)

  pub with-answer : (o : Option (Row G)) (r : Row G) (a : Answer ℕ) → o ≡ Some r → option_map (λ (r : Row G). r.answer) o ≡ Some a → r.answer ≡ a
  with-answer None r a e f = cc
  with-answer (Some q) r a e f = (let same : q ≡ r = cc in let is : q.answer ≡ a = some-inside q.answer a f in sym (ap (λ (y : Row G). y.answer) same) ∙ is)

module _ {G : Type 0} (eq : G → G → Bool) where
  numbers-append : (gs xs ys : List G)
      → numbers_from eq gs (xs ++ ys) ≡ numbers_from eq gs xs ++ numbers_from eq (insert_all eq gs xs) ys
  numbers-append gs [] ys = refl
  numbers-append gs (x ∷ xs) ys = ap (λ l. position_or_len (eq x) gs ∷ l) (numbers-append (insert_key eq gs x) xs ys)

  -- one goal more
  pub more-goals : (gs ks xs ys : List G) (x : G) → ys ≡ xs ++ x ∷ [] → ks ≡ insert_all eq gs xs
      → insert_key eq ks x ≡ insert_all eq gs ys
  more-goals gs ks xs ys x e k =
      ap (λ l. insert_key eq l x) k ∙ (sym (all-append eq gs xs (x ∷ [])) ∙ ap (insert_all eq gs) (sym e))

  pub more-numbers : (gs ks xs ys : List G) (x : G) (ns ms : List ℕ) (n : ℕ) → ys ≡ xs ++ x ∷ [] → ks ≡ insert_all eq gs xs
      → ns ≡ numbers_from eq gs xs → n ≡ position_or_len (eq x) ks → ms ≡ ns ++ n ∷ [] → ms ≡ numbers_from eq gs ys
  more-numbers gs ks xs ys x ns ms n e k f m h =
      h ∙ ((λ j. f j ++ (m ∙ ap (position_or_len (eq x)) k) j ∷ []) ∙ (sym (numbers-append gs xs (x ∷ [])) ∙ ap (numbers_from eq gs) (sym e)))

  pub all-below : (gs xs : List G) (i : ℕ) → length (insert_all eq gs (take i xs)) ≤ length (insert_all eq gs xs)
  all-below gs xs zero = let h = all-front eq gs xs in omega (arith, ap length h.1, length-append gs h.0)
  all-below gs [] (suc i) = omega arith
  all-below gs (x ∷ xs) (suc i) = all-below (insert_key eq gs x) xs i

  -- the number that a goal gets
  pub number-at : (gs xs : List G) (i : ℕ) (x : G) → slice_get xs i ≡ Some x
      → get_or (numbers_from eq gs xs) i 0 ≡ position_or_len (eq x) (insert_all eq gs (take i xs))
  number-at gs [] i x e = cc
  number-at gs (y ∷ xs) zero x e = let same : y ≡ x = cc in ap (λ z. position_or_len (eq z) gs) same
  number-at gs (y ∷ xs) (suc i) x e = number-at (insert_key eq gs y) xs i x e

  module _ (change : Answer ℕ → Answer ℕ) where
    newcomers-push : (gs : List G) (rows : List (Row G)) (r : Row G)
        → newcomers eq change gs (rows ++ r ∷ []) ≡ newcomers eq change gs rows ++ (if list_any (eq r.goal) (insert_all eq gs (goals_of rows)) then [] else change r.answer ∷ [])
    newcomers-push gs [] r = append-nil (if list_any (eq r.goal) gs then [] else change r.answer ∷ [])
    newcomers-push gs (q ∷ rows) r =
        ap (λ l. (if list_any (eq q.goal) gs then [] else change q.answer ∷ []) ++ l) (newcomers-push (insert_key eq gs q.goal) rows r)
        ∙ sym (append_assoc (if list_any (eq q.goal) gs then [] else change q.answer ∷ []) (newcomers eq change (insert_key eq gs q.goal) rows) _)

module _ {A : Type 0} (p : A → Bool) where
  pub place-there : (xs : List A) → list_any p xs ≡ true → position_or_len p xs < length xs
  place-there [] e = cc
  place-there (x ∷ xs) e =
      elim (p x) as (λ b. (b || list_any p xs) ≡ true → cond (not b) (1 + position_or_len p xs) 0 < suc (length xs)) [ true ↦ λ f. omega arith | false ↦ λ f. (let h = place-there xs f in omega arith) ] e

  pub place-absent : (xs : List A) → list_any p xs ≡ false → position_or_len p xs ≡ length xs
  place-absent [] e = refl
  place-absent (x ∷ xs) e =
      elim (p x) as (λ b. (b || list_any p xs) ≡ false → cond (not b) (1 + position_or_len p xs) 0 ≡ suc (length xs)) [ true ↦ λ f. cc | false ↦ λ f. (let h = place-absent xs f in omega arith) ] e

-- one row more: its answer is put last if its goal has the next number
module _ {G : Type 0} (eq : G → G → Bool) (change : Answer ℕ → Answer ℕ) (gs ks : List G) (rows : List (Row G)) (i : ℕ) (r : Row G) (more : take (i + 1) rows ≡ take i rows ++ r ∷ [])
    (next : take (i + 1) (goals_of rows) ≡ take i (goals_of rows) ++ r.goal ∷ []) (are : ks ≡ insert_all eq gs (take i (goals_of rows))) (us : List (Answer ℕ)) (is : us ≡ newcomers eq change gs (take i rows)) (long : length gs + length us ≡ length ks) where
  so-far : insert_all eq gs (goals_of (take i rows)) ≡ ks
  so-far = ap (insert_all eq gs) (sym (take-map (λ (r : Row G). r.goal) i rows)) ∙ sym are

  grown-by : (b : Bool) → list_any (eq r.goal) ks ≡ b → newcomers eq change gs (take (i + 1) rows) ≡ us ++ (if b then [] else change r.answer ∷ [])
  grown-by b e =
      ap (newcomers eq change gs) more ∙ (newcomers-push eq change gs (take i rows) r ∙ (λ k. sym is k ++ (if (ap (list_any (eq r.goal)) so-far ∙ e) k then [] else change r.answer ∷ [])))

  longer : (b : Bool) → list_any (eq r.goal) ks ≡ b → insert_all eq gs (take (i + 1) (goals_of rows)) ≡ (if b then ks else ks ++ r.goal ∷ [])
  longer b e = sym (more-goals eq gs ks (take i (goals_of rows)) (take (i + 1) (goals_of rows)) r.goal next are) ∙ ap (λ (b : Bool). if b then ks else ks ++ r.goal ∷ []) e

  pub row-new : (n : ℕ) (vs : List (Answer ℕ)) → n ≡ position_or_len (eq r.goal) ks → n ≡ length gs + length us → vs ≡ us ++ change r.answer ∷ []
      → (vs ≡ newcomers eq change gs (take (i + 1) rows)) × (length gs + length vs ≡ length (insert_all eq gs (take (i + 1) (goals_of rows))))
  row-new n vs at same e = by (list_any (eq r.goal) ks) refl
    where
      by : (b : Bool) → list_any (eq r.goal) ks ≡ b → (vs ≡ newcomers eq change gs (take (i + 1) rows)) × (length gs + length vs ≡ length (insert_all eq gs (take (i + 1) (goals_of rows))))
      by true f = absurd (let h = place-there (eq r.goal) ks f in omega arith)
      by false f = (e ∙ sym (grown-by false f), omega (arith, ap length (longer false f), length-append ks (r.goal ∷ []), ap length e, length-append us (change r.answer ∷ [])))

  pub row-old : (n : ℕ) (vs : List (Answer ℕ)) → n ≡ position_or_len (eq r.goal) ks → (n ≡ length gs + length us → ⊥) → vs ≡ us
      → (vs ≡ newcomers eq change gs (take (i + 1) rows)) × (length gs + length vs ≡ length (insert_all eq gs (take (i + 1) (goals_of rows))))
  row-old n vs at other e = by (list_any (eq r.goal) ks) refl
    where
      by : (b : Bool) → list_any (eq r.goal) ks ≡ b → (vs ≡ newcomers eq change gs (take (i + 1) rows)) × (length gs + length vs ≡ length (insert_all eq gs (take (i + 1) (goals_of rows))))
      by true f = (e ∙ (sym (append-nil us) ∙ sym (grown-by true f)), omega (arith, ap length (longer true f), ap length e))
      by false f = absurd (other (let h = place-absent (eq r.goal) ks f in omega arith))
