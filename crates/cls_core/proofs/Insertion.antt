-- Goals that are put behind others, unless they are among them, and the places at which they then stand.
use Rattle.std.proofs.Common.{◌≡◌, ℕ, suc, ◌+◌, ◌<◌, ◌≤◌, Bool, true, false, cond, not, List, [], ◌∷◌, ◌++◌, length, map, take, drop, get_or, refl, sym, ap, subst, ◌∙◌, arith, append_assoc, append-nil, length-append, if◌then◌else◌, ◌||◌, Some}
use Rattle.std.specs.List.{position, position_or_len, list_any}
use Rattle.std.proofs.lemmas.List.{append_cancel_left, take_more, take-append-drop}
use Rattle.std.proofs.Math.Seq.{take-append_seam}
use Rattle.std.proofs.lemmas.List.Quantifiers.{position-Some}
use Rattle.std.proofs.lemmas.List.Sums.{position_or_len_is}
use Rattle.indexmap.specs.IndexSet.{insert_key, insert_all}
use Rattle.cls_core.specs.Adding.{GoesOn}
use Rattle.cls_core.specs.Numbers.{numbers_from}
use Rattle.cls_base.specs.Arguments.{arguments_of_rule, arguments_in}
use Rattle.cls_base.specs.declared.rule.Rule.{Rule}

module _ {A : Type 0} (p : A → Bool) where
  -- what stands in the front is found there
  pub place-front : (xs ys : List A) → list_any p xs ≡ true → position_or_len p (xs ++ ys) ≡ position_or_len p xs
  place-front [] ys e = cc
  place-front (x ∷ xs) ys e =
      elim (p x) as (λ b. (b || list_any p xs) ≡ true → cond (not b) (1 + position_or_len p (xs ++ ys)) 0 ≡ cond (not b) (1 + position_or_len p xs) 0) [ true ↦ λ f. refl | false ↦ λ f. ap (λ n. 1 + n) (place-front xs ys f) ] e

  -- what doesn't stand in the front is found behind it
  pub place-behind : (xs ys : List A) → list_any p xs ≡ false → position_or_len p (xs ++ ys) ≡ length xs + position_or_len p ys
  place-behind [] ys e = omega arith
  place-behind (x ∷ xs) ys e =
      elim (p x) as (λ b. (b || list_any p xs) ≡ false → cond (not b) (1 + position_or_len p (xs ++ ys)) 0 ≡ suc (length xs) + position_or_len p ys) [ true ↦ λ f. cc | false ↦ λ f. (let h = place-behind xs ys f in omega arith) ] e

  pub place-found : (xs : List A) (i : ℕ) → position p xs ≡ Some i → i ≡ position_or_len p xs
  place-found [] i e = cc
  place-found (x ∷ xs) i e = let s = position-Some p (x ∷ xs) i x e in sym (position_or_len_is p (x ∷ xs) i x (omega arith) (λ k h. s.2 k h) (λ _. s.1))

  pub any-append : (xs ys : List A) → list_any p xs ≡ true → list_any p (xs ++ ys) ≡ true
  any-append [] ys e = cc
  any-append (x ∷ xs) ys e =
      elim (p x) as (λ b. (b || list_any p xs) ≡ true → (b || list_any p (xs ++ ys)) ≡ true) [ true ↦ λ f. refl | false ↦ λ f. any-append xs ys f ] e

  any-last : (xs : List A) (y : A) → p y ≡ true → list_any p (xs ++ y ∷ []) ≡ true
  any-last [] y e = ap (λ b. b || false) e
  any-last (x ∷ xs) y e = elim (p x) as (λ b. (b || list_any p (xs ++ y ∷ [])) ≡ true) [ true ↦ refl | false ↦ any-last xs y e ]

  place-last : (xs : List A) (y : A) → list_any p xs ≡ false → p y ≡ true
      → position_or_len p (xs ++ y ∷ []) ≡ position_or_len p xs
  place-last [] y e h = ap (λ b. cond (not b) (1 + 0) 0) h
  place-last (x ∷ xs) y e h =
      elim (p x) as (λ b. (b || list_any p xs) ≡ false → cond (not b) (1 + position_or_len p (xs ++ y ∷ [])) 0 ≡ cond (not b) (1 + position_or_len p xs) 0) [ true ↦ λ f. cc | false ↦ λ f. ap (λ n. 1 + n) (place-last xs y f h) ] e

-- lists that go on behind others
pub goes_same : {A : Type 0} (xs : List A) → GoesOn xs xs
goes_same xs = record { more = []; is = sym (append-nil xs) }

pub goes_equal : {A : Type 0} (xs ys : List A) → ys ≡ xs → GoesOn xs ys
goes_equal xs ys e = record { more = []; is = e ∙ sym (append-nil xs) }

pub goes_on : {A : Type 0} (xs ys zs : List A) → GoesOn xs ys → GoesOn ys zs → GoesOn xs zs
goes_on xs ys zs h k = record { more = h.more ++ k.more; is = k.is ∙ (ap (λ l. l ++ k.more) h.is ∙ append_assoc xs h.more k.more) }

pub goes_cut : {A : Type 0} (xs ys : List A) → GoesOn xs ys → take (length xs) ys ≡ xs
goes_cut xs ys h = ap (take (length xs)) h.is ∙ take-append_seam xs h.more

module _ {G : Type 0} (eq : G → G → Bool) where
  pub all-append : (gs xs ys : List G) → insert_all eq gs (xs ++ ys) ≡ insert_all eq (insert_all eq gs xs) ys
  all-append gs [] ys = refl
  all-append gs (x ∷ xs) ys = all-append (insert_key eq gs x) xs ys

  one-grows : (gs : List G) (x : G) (b : Bool) → (more : List G) × ((if b then gs else gs ++ x ∷ []) ≡ gs ++ more)
  one-grows gs x true = ([], sym (append-nil gs))
  one-grows gs x false = (x ∷ [], refl)

  pub goes_key : (gs ks : List G) (x : G) → ks ≡ insert_key eq gs x → GoesOn gs ks
  goes_key gs ks x e = let k = one-grows gs x (list_any (eq x) gs) in record { more = k.0; is = e ∙ k.1 }

  -- the goals go on as they were
  pub all-front : (gs xs : List G) → (more : List G) × (insert_all eq gs xs ≡ gs ++ more)
  all-front gs [] = ([], sym (append-nil gs))
  all-front gs (x ∷ xs) =
      let h = all-front (insert_key eq gs x) xs in
      let k = one-grows gs x (list_any (eq x) gs) in
      (k.0 ++ h.0, h.1 ∙ (ap (λ l. l ++ h.0) k.1 ∙ append_assoc gs k.0 h.0))

  -- what a list puts behind the goals, put there again
  again : (gs xs : List G) → (more : List G) × (insert_all eq gs xs ≡ gs ++ more) × (insert_all eq gs more ≡ gs ++ more)
  again gs [] = ([], sym (append-nil gs), sym (append-nil gs))
  again gs (x ∷ xs) = by (list_any (eq x) gs) refl (again (insert_key eq gs x) xs)
    where
      by : (b : Bool) → list_any (eq x) gs ≡ b
          → ((more : List G) × (insert_all eq (insert_key eq gs x) xs ≡ insert_key eq gs x ++ more) × (insert_all eq (insert_key eq gs x) more ≡ insert_key eq gs x ++ more))
          → (more : List G) × (insert_all eq (insert_key eq gs x) xs ≡ gs ++ more) × (insert_all eq gs more ≡ gs ++ more)
      by true e h =
          let same : insert_key eq gs x ≡ gs = ap (λ (b : Bool). if b then gs else gs ++ x ∷ []) e in
          (h.0, h.1 ∙ ap (λ l. l ++ h.0) same, subst (λ l. insert_all eq l h.0 ≡ l ++ h.0) same h.2)
      by false e h =
          let one : insert_key eq gs x ≡ gs ++ x ∷ [] = ap (λ (b : Bool). if b then gs else gs ++ x ∷ []) e in
          let moved : (gs ++ x ∷ []) ++ h.0 ≡ gs ++ x ∷ h.0 = append_assoc gs (x ∷ []) h.0 in
          (x ∷ h.0, h.1 ∙ (ap (λ l. l ++ h.0) one ∙ moved), h.2 ∙ (ap (λ l. l ++ h.0) one ∙ moved))

  -- the goals that were added, added again to those without them
  pub all-again : (gs more xs : List G) → gs ++ more ≡ insert_all eq gs xs → insert_all eq gs more ≡ insert_all eq gs xs
  all-again gs more xs e =
      let h = again gs xs in
      let same : more ≡ h.0 = append_cancel_left gs more h.0 (e ∙ h.1) in
      ap (insert_all eq gs) same ∙ (h.2 ∙ sym h.1)

  pub all-length : (gs xs : List G) → length gs ≤ length (insert_all eq gs xs)
  all-length gs xs = let h = all-front gs xs in omega (arith, ap length h.1, length-append gs h.0)

  all-split : (gs xs ys all : List G) → xs ++ ys ≡ all → length (insert_all eq gs xs) ≤ length (insert_all eq gs all)
  all-split gs xs ys all e =
      subst (λ l. length (insert_all eq gs xs) ≤ length (insert_all eq gs l)) e (subst (λ l. length (insert_all eq gs xs) ≤ length l) (sym (all-append gs xs ys)) (all-length (insert_all eq gs xs) ys))

  -- the first goals of a list make no more than all of them
  pub all-take : (gs xs : List G) (i : ℕ) → length (insert_all eq gs (take i xs)) ≤ length (insert_all eq gs xs)
  all-take gs xs i = all-split gs (take i xs) (drop i xs) xs (take-append-drop i xs)

  -- one goal more of a list
  pub all-more : (gs xs : List G) (i : ℕ) (d : G) → i < length xs
      → insert_all eq gs (take (i + 1) xs) ≡ insert_key eq (insert_all eq gs (take i xs)) (get_or xs i d)
  all-more gs xs i d h = ap (insert_all eq gs) (take_more xs i d h) ∙ all-append gs (take i xs) (get_or xs i d ∷ [])

  numbers-append : (gs xs ys : List G)
      → numbers_from eq gs (xs ++ ys) ≡ numbers_from eq gs xs ++ numbers_from eq (insert_all eq gs xs) ys
  numbers-append gs [] ys = refl
  numbers-append gs (x ∷ xs) ys = ap (λ l. position_or_len (eq x) gs ∷ l) (numbers-append (insert_key eq gs x) xs ys)

  -- one number more
  pub numbers-more : (gs xs : List G) (i : ℕ) (d : G) → i < length xs
      → numbers_from eq gs (take (i + 1) xs) ≡ numbers_from eq gs (take i xs) ++ position_or_len (eq (get_or xs i d)) (insert_all eq gs (take i xs)) ∷ []
  numbers-more gs xs i d h = ap (numbers_from eq gs) (take_more xs i d h) ∙ numbers-append gs (take i xs) (get_or xs i d ∷ [])

  pub arguments-append : (rs ss : List (Rule G)) → arguments_in (rs ++ ss) ≡ arguments_in rs ++ arguments_in ss
  arguments-append [] ss = refl
  arguments-append (r ∷ rs) ss =
      ap (λ l. arguments_of_rule r ++ l) (arguments-append rs ss) ∙ sym (append_assoc (arguments_of_rule r) (arguments_in rs) (arguments_in ss))

  -- one step over goals: the goals so far, and the next one
  pub goal-step : (gs xs ks : List G) (i : ℕ) (x : G) → i < length xs → ks ≡ insert_all eq gs (take i xs)
      → x ≡ get_or xs i x → insert_key eq ks x ≡ insert_all eq gs (take (i + 1) xs)
  goal-step gs xs ks i x h e is =
      ap (λ l. insert_key eq l x) e ∙ (ap (insert_key eq (insert_all eq gs (take i xs))) is ∙ sym (all-more gs xs i x h))

  pub number-step : (gs xs ks : List G) (ns ms : List ℕ) (n i : ℕ) (x : G) → i < length xs
      → ks ≡ insert_all eq gs (take i xs) → x ≡ get_or xs i x → ns ≡ numbers_from eq gs (take i xs)
      → n ≡ position_or_len (eq x) ks → ms ≡ ns ++ n ∷ [] → ms ≡ numbers_from eq gs (take (i + 1) xs)
  number-step gs xs ks ns ms n i x h e is f m g =
      g ∙ ((λ k. f k ++ (m ∙ (λ j. position_or_len (eq (is j)) (e j))) k ∷ []) ∙ sym (numbers-more gs xs i x h))

  pub numbers-count : (gs xs : List G) → length (numbers_from eq gs xs) ≡ length xs
  numbers-count gs [] = refl
  numbers-count gs (x ∷ xs) = ap suc (numbers-count (insert_key eq gs x) xs)

  -- a goal that stands among the goals stays at its place
  pub stays : (y : G) (gs xs : List G) → list_any (eq y) gs ≡ true
      → position_or_len (eq y) (insert_all eq gs xs) ≡ position_or_len (eq y) gs
  stays y gs xs e = let h = all-front gs xs in ap (position_or_len (eq y)) h.1 ∙ place-front (eq y) gs h.0 e

  comes : (gs : List G) (x : G) → eq x x ≡ true → (b : Bool) → list_any (eq x) gs ≡ b
      → (position_or_len (eq x) (if b then gs else gs ++ x ∷ []) ≡ position_or_len (eq x) gs) × (list_any (eq x) (if b then gs else gs ++ x ∷ []) ≡ true)
  comes gs x r true e = (refl, e)
  comes gs x r false e = (place-last (eq x) gs x e r, any-last (eq x) gs x r)

  module _ (reflexive : (x : G) → eq x x ≡ true) where
    -- a goal that was put there has in the end the place that it was given
    pub place-kept : (gs : List G) (x : G) (more : List G)
        → position_or_len (eq x) gs ≡ position_or_len (eq x) (insert_all eq (insert_key eq gs x) more)
    place-kept gs x more = let h = comes gs x (reflexive x) (list_any (eq x) gs) refl in sym (stays x (insert_key eq gs x) more h.1 ∙ h.0)

    numbers-before : (gs xs more : List G)
        → numbers_from eq gs xs ≡ map (λ a. position_or_len (eq a) (insert_all eq gs (xs ++ more))) xs
    numbers-before gs [] more = refl
    numbers-before gs (x ∷ xs) more = λ k. place-kept gs x (xs ++ more) k ∷ numbers-before (insert_key eq gs x) xs more k

    -- the numbers that were given one after the other are the places at which the goals stand in the end
    pub numbers-kept : (gs xs : List G)
        → numbers_from eq gs xs ≡ map (λ a. position_or_len (eq a) (insert_all eq gs xs)) xs
    numbers-kept gs xs =
        numbers-before gs xs [] ∙ ap (λ l. map (λ a. position_or_len (eq a) (insert_all eq gs l)) xs) (append-nil xs)
