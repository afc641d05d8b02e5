-- Each step of the lock keeps its rule.
use Rattle.std.proofs.Common.{◌≡◌, ◌≢◌, ℕ, List, ◌∷◌, ◌++◌, ◌==◌, [], length, get_or, sym, refl, ◌∙◌, subst, ap, arith, Option, Some, set, length-set, get_or-set_same, ⊎_elim, zero, suc}
use mathlib.Core.Option.{some, some-injective, some-ne-none}
use lib.ListN.{get_elem?}
use prog.Atomic.{either}
use Rattle.atomic_table.specs.Table.{State, Me, Act, keeps, takes, gives, rest, Valid, stepped, opening, carried_after, Allows, Splits, Joins}
use Rattle.atomic_table.proofs.Lists.{at_set, at_longer, at_snoc, set_again, set_else, set_here, exchanged}
use Rattle.cls_turn.specs.declared.view.View.{View}
use Rattle.cls_turn.specs.declared.view.View.TheVariants.{Ended, Idle, Holding}
use Rattle.cls_turn.specs.Growing.{KeepsGrowing, AllGoOn, NoneHolds, IsTakenOut, TakeOutcome, PutOutcome}

-- what is written where something was is there
set_there : {A : Type 0} (l : List A) (i : ℕ) (a b : A) → get_elem? l i ≡ some a → get_elem? (set l i b) i ≡ some b
set_there [] i a b e = absurd (some-ne-none a (sym e))
set_there (x ∷ xs) zero a b e = refl
set_there (x ∷ xs) (suc i) a b e = set_there xs i a b e

-- a word that is written as it was
same_word : (words : List ℕ) (n : ℕ) → length words ≡ 1 → n ≡ get_or words 0 0 → set words 0 n ≡ words
same_word [] n long is = absurd (omega arith)
same_word (x ∷ xs) n long is = λ k. is k ∷ xs

module _ {G : Type 0} where
  idle_not_holding : (g h : G) → Idle g ≡ Holding h → ⊥
  idle_not_holding g h e = cc

  ended_not_idle : (h : G) → Ended ≡ Idle h → ⊥
  ended_not_idle h e = cc

  ended_not_holding : (h : G) → Ended ≡ Holding h → ⊥
  ended_not_holding h e = cc

  same_idle : (g h : G) → Idle g ≡ Idle h → g ≡ h
  same_idle g h e = cc

  same_holding : (g h : G) → Holding g ≡ Holding h → g ≡ h
  same_holding g h e = cc

module _ {T G : Type 0} (goes_on : G → G → Type 0) (known : T → G) where
  -- a step by which nothing changes
  unchanged : (s : State (Option T) (View G)) (id : ℕ) (v : View G) (carried : List (ℕ × Option T))
      → length s.words ≡ 1 → get_elem? s.views id ≡ some v
      → stepped s 0 (get_or s.words 0 0) id carried v keeps ≡ s
  unchanged s id v carried long at = λ k.
      record { words = same_word s.words (get_or s.words 0 0) long refl k; homes = s.homes; views = set_again s.views id v at k }

  taken_out : (s : State (Option T) (View G)) (id : ℕ) (v : View G) (value : T) (carried : List (ℕ × Option T))
      → get_elem? s.views id ≡ some v → AllGoOn goes_on s.views (known value) → NoneHolds s.views
      → IsTakenOut goes_on known (stepped s 0 1 id carried (Holding (known value)) (takes 0 (Some value)))
  taken_out s id v value carried at all none = (
    id,
    known value,
    set_there s.views id v (Holding (known value)) at,
    λ k h e. ⊎_elim (λ t. absurd (idle_not_holding h (known value) (sym t.1))) (λ t. all k h t.1)
        (at_set s.views id k (Holding (known value)) (Idle h) e),
    λ k h e. ⊎_elim (λ t. t.0) (λ t. absurd (none k h t.1))
        (at_set s.views id k (Holding (known value)) (Holding h) e),
  )

  pub take_step : (slots id : ℕ) (m : Me (Option T) (View G))
      → Allows (KeepsGrowing goes_on known) slots id m 0 (λ n. either (n == 0) 1 n) (TakeOutcome goes_on known m)
  take_step slots id m s kept wide at _ =
      let n : ℕ = get_or s.words 0 0 in
      let F : ℕ → Type 0 = λ x. (w : View G) × (a : Act (Option T)) × Valid s.homes m.1 a
      × KeepsGrowing goes_on known (stepped s 0 x id m.1 w a)
      × TakeOutcome goes_on known m n (w, carried_after m.1 a) in
      exchanged n 0 1 F
      (λ free. let t = kept.1 free in (
        Holding (known t.0),
        takes 0 (Some t.0),
        t.1,
        (
          length-set s.words 0 1 ∙ kept.0,
          λ e. absurd (let one = get_or-set_same s.words 0 1 0 (omega (arith, kept.0)) in omega arith),
          λ _. taken_out s id m.0 t.0 m.1 at t.2 t.3,
        ),
        (
          λ _. (t.0, refl, refl, λ g e. t.2 id g (at ∙ ap some e)),
          λ ne. absurd (ne free),
        ),
      ))
      (λ ne. (
        m.0,
        keeps,
        tt,
        subst (KeepsGrowing goes_on known) (sym (unchanged s id m.0 m.1 kept.0 at)) kept,
        (λ e. absurd (ne e), λ _. (refl, refl)),
      ))

  all_put : (s : State (Option T) (View G)) (id : ℕ) (g : G) (value : T) → IsTakenOut goes_on known s
      → get_elem? s.views id ≡ some (Holding g) → goes_on g (known value)
      → ((f : G) → goes_on f f) → ((f h i : G) → goes_on f h → goes_on h i → goes_on f i)
      → AllGoOn goes_on (set s.views id (Idle (known value))) (known value)
      × NoneHolds (set s.views id (Idle (known value)))
  all_put s id g value out at on reflexive transitive =
      let this : id ≡ out.0 = out.4 id g at in
      let same : get_elem? s.views out.0 ≡ some (Holding g) = subst (λ k. get_elem? s.views k ≡ some (Holding g)) this at in
      let is : out.1 ≡ g = same_holding out.1 g (some-injective (Holding out.1) (Holding g) (sym out.2 ∙ same)) in (
        λ k h e. ⊎_elim
            (λ t. subst (λ x. goes_on x (known value)) (same_idle (known value) h t.1) (reflexive (known value)))
            (λ t. transitive h g (known value) (subst (goes_on h) is (out.3 k h t.1)) on)
            (at_set s.views id k (Idle (known value)) (Idle h) e),
        λ k h e. ⊎_elim (λ t. idle_not_holding (known value) h t.1) (λ t. t.0 (out.4 k h t.1 ∙ sym this))
            (at_set s.views id k (Idle (known value)) (Holding h) e),
      )

  only_one : (value other : T) (more left : List (ℕ × Option T)) → (0, Some value) ∷ more ≡ (0, Some other) ∷ left
      → (Idle (known value) ≡ Idle (known other)) × (more ≡ left)
  only_one value other more left e =
      let A : ℕ × Option T = (0, Some value) in
      let B : ℕ × Option T = (0, Some other) in
      let first : A ≡ B = cc in
      let same : Some value ≡ Some other = ap (λ (p : ℕ × Option T). p.1) first in
      let is : value ≡ other = cc in
      let left_is : more ≡ left = cc in (ap (λ (x : T). Idle (known x)) is, left_is)

  pub put_step : (slots id : ℕ) (m : Me (Option T) (View G)) (g : G) (value : T) (more : List (ℕ × Option T))
      → ((f : G) → goes_on f f) → ((f h i : G) → goes_on f h → goes_on h i → goes_on f i)
      → slots ≡ 1 → goes_on g (known value) → m ≡ (Holding g, (0, Some value) ∷ more)
      → Allows (KeepsGrowing goes_on known) slots id m 0 (λ _. 0) (λ _. PutOutcome known m)
  put_step slots id m g value more reflexive transitive one on is =
      let P : Me (Option T) (View G) → Type 0 =
      λ x. Allows (KeepsGrowing goes_on known) slots id x 0 (λ _. 0) (λ _. PutOutcome known x) in
      subst P (sym is)
      (λ s kept wide at _.
      let out = kept.2 (λ free. (kept.1 free).3 id g at) in
      let put = all_put s id g value out at on reflexive transitive in (
        Idle (known value),
        gives,
        tt,
        (
          length-set s.words 0 0 ∙ kept.0,
          λ _. (value, set_here s.homes 0 (some (Some value)) (omega arith), put.0, put.1),
          λ ne. absurd (ne (get_or-set_same s.words 0 0 0 (omega (arith, kept.0)))),
        ),
        λ other left e. only_one value other more left e,
      ))

  pub split_step : (id : ℕ) (v : View G) (g : G) → v ≡ Idle g → Splits (KeepsGrowing goes_on known) id v v v
  split_step id v g is s kept at =
      let new : List (View G) → Type 0 =
      λ l. KeepsGrowing goes_on known record { words = s.words; homes = s.homes; views = l ++ v ∷ [] } in
      let all : (h : G) → AllGoOn goes_on s.views h → AllGoOn goes_on (s.views ++ v ∷ []) h =
      λ h on k i e. ⊎_elim (λ old. on k i old) (λ last. on id i (at ∙ ap some last)) (at_snoc s.views v (Idle i) k e) in
      let old : (k : ℕ) (h : G) → get_elem? (s.views ++ v ∷ []) k ≡ some (Holding h) → get_elem? s.views k ≡ some (Holding h) =
      λ k h e. ⊎_elim (λ old. old) (λ last. absurd (idle_not_holding g h (sym is ∙ last))) (at_snoc s.views v (Holding h) k e) in
      subst new (sym (set_again s.views id v at)) (
        kept.0,
        λ free. let t = kept.1 free in (t.0, t.1, all (known t.0) t.2, λ k h e. t.3 k h (old k h e)),
        λ ne. let t = kept.2 ne in
            (t.0, t.1, at_longer s.views (v ∷ []) t.0 (Holding t.1) t.2, all t.1 t.3, λ k h e. t.4 k h (old k h e)),
      )

  pub join_step : (id : ℕ) (v : View G) (other : ℕ) (w : View G) (g : G) → w ≡ Idle g
      → Joins (KeepsGrowing goes_on known) id v other w v Ended
  join_step id v other w g is s kept at apart there =
      let new : List (View G) → Type 0 =
      λ l. KeepsGrowing goes_on known record { words = s.words; homes = s.homes; views = set l other Ended } in
      let here : get_elem? s.views other ≡ some w =
      subst (λ l. get_elem? l other ≡ some w) (set_again s.views id v at) there in
      let all : (h : G) → AllGoOn goes_on s.views h → AllGoOn goes_on (set s.views other Ended) h =
      λ h on k i e. ⊎_elim (λ t. absurd (ended_not_idle i t.1)) (λ t. on k i t.1) (at_set s.views other k Ended (Idle i) e) in
      let old : (k : ℕ) (h : G) → get_elem? (set s.views other Ended) k ≡ some (Holding h) → get_elem? s.views k ≡ some (Holding h) =
      λ k h e. ⊎_elim (λ t. absurd (ended_not_holding h t.1)) (λ t. t.1) (at_set s.views other k Ended (Holding h) e) in
      let not_other : (k : ℕ) (h : G) → get_elem? s.views k ≡ some (Holding h) → k ≢ other =
      λ k h e same. idle_not_holding g h (sym is ∙ some-injective w (Holding h)
      (sym here ∙ subst (λ j. get_elem? s.views j ≡ some (Holding h)) same e)) in
      subst new (sym (set_again s.views id v at)) (
        kept.0,
        λ free. let t = kept.1 free in (t.0, t.1, all (known t.0) t.2, λ k h e. t.3 k h (old k h e)),
        λ ne. let t = kept.2 ne in (
          t.0,
          t.1,
          set_else s.views other t.0 Ended (not_other t.0 t.1 t.2) ∙ t.2,
          all t.1 t.3,
          λ k h e. t.4 k h (old k h e),
        ),
      )

  only : (g : G) (k : ℕ) (v : View G) → get_elem? (Idle g ∷ []) k ≡ some v → Idle g ≡ v
  only g zero v e = some-injective (Idle g) v e
  only g (suc k) v e = absurd (some-ne-none v (sym e))

  pub open_step : (value : T) (xs : List (Option T)) → ((f : G) → goes_on f f) → xs ≡ Some value ∷ []
      → KeepsGrowing goes_on known (opening (0 ∷ []) xs (Idle (known value)))
  open_step value xs reflexive is =
      let P : List (Option T) → Type 0 =
      λ l. KeepsGrowing goes_on known (opening (0 ∷ []) l (Idle (known value))) in
      subst P (sym is) (
        refl,
        λ _. (
          value,
          refl,
          λ k h e. subst (λ x. goes_on x (known value)) (same_idle (known value) h (only (known value) k (Idle h) e))
              (reflexive (known value)),
          λ k h e. idle_not_holding (known value) h (only (known value) k (Holding h) e),
        ),
        λ ne. absurd (ne refl),
      )

module _ {S : Type 0} where
  -- the slot taken last is the first of those taken
  pub in_front : (l more : List (ℕ × S)) (x : ℕ × S) → l ≡ x ∷ more → l ≡ x ∷ rest l
  in_front l more x e = e ∙ ap (λ k. x ∷ rest k) (sym e)

module _ {S V : Type 0} where
  -- a value written into the one slot that is taken
  pub filled : (m n : Me S V) (v : V) (was value : S) → n ≡ (m.0, (0, value) ∷ rest m.1) → m.0 ≡ v
      → m.1 ≡ (0, was) ∷ [] → n ≡ (v, (0, value) ∷ [])
  filled m n v was value e at held = e ∙ (λ k. (at k, (0, value) ∷ rest (held k)))
