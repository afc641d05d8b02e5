-- Covers of the families of a goal are covers of the goal.
use Rattle.std.proofs.Common.{ℕ, zero, suc, ◌≡◌, ◌≤◌, refl, sym, ◌∙◌, subst, ap, inl, inr, List, [], ◌∷◌, length, take, arith}
use Rattle.cls_base.proofs.Lists.{Contains-nil, Contains-here, Contains-later, Contains-cases}
use Rattle.cls_base.specs.Limits.{max_covers}
use Rattle.cls_path.specs.Paths.{TypePath, Paths, none, more, first_in, later_in, listed}
use Rattle.cls_cover.specs.Covers.{IsMinimal, AreMinimal, HasMore, MeetsEach, Meets}
use Rattle.cls_library.specs.Arrows.{MultiArrow, arity_of}
use Rattle.cls_library.specs.Families.{AreFamilies}
use Rattle.cls_library.specs.Libraries.{Library, paths_at, arrows_at}
use Rattle.cls_library.specs.Reaching.{CoversGoal}
use Rattle.cls_library.specs.Rules.{Front, no_front, more_front, HasManyCovers}

module _ (l : Library) (arrows : List MultiArrow) where
  meets_from : (goal : List TypePath) (fs : List (List ℕ)) (s : List ℕ) → AreFamilies l arrows goal fs → CoversGoal l arrows (listed goal) s → MeetsEach fs s
  meets_from [] [] s h c f m = absurd (Contains-nil f m)
  meets_from [] (f ∷ fs) s h c g m = absurd h
  meets_from (q ∷ goal) [] s h c g m = absurd h
  meets_from (q ∷ goal) (f ∷ fs) s h c g m = elim (Contains-cases f fs g m) [
    | inl e ↦ subst (λ (k : List ℕ). Meets k s) (sym e) (let r = c q first_in in (r.0, (h.0.exactly r.0).1 r.2, r.1))
    | inr k ↦ meets_from goal fs s h.1 (λ p i. c p (later_in i)) g k
  ]

  covers_from : (goal : List TypePath) (fs : List (List ℕ)) (s : List ℕ) → AreFamilies l arrows goal fs → MeetsEach fs s → CoversGoal l arrows (listed goal) s
  covers_from [] fs s h c q i = elim i [ ]
  covers_from (p ∷ goal) [] s h c q i = absurd h
  covers_from (p ∷ goal) (f ∷ fs) s h c _ first_in = let r = c f (Contains-here f fs) in (r.0, r.2, (h.0.exactly r.0).0 r.1)
  covers_from (p ∷ goal) (f ∷ fs) s h c q (later_in i) = covers_from goal fs s h.1 (λ g m. c g (Contains-later g f fs m)) q i

  pub minimal_to : (goal : List TypePath) (fs : List (List ℕ)) (s : List ℕ) → AreFamilies l arrows goal fs → IsMinimal (MeetsEach fs) s → IsMinimal (CoversGoal l arrows (listed goal)) s
  minimal_to goal fs s h m = record { ascending = m.ascending; covers = covers_from goal fs s h m.covers; minimal = (λ t u c. m.minimal t u (meets_from goal fs t h c)) }

  pub minimal_back : (goal : List TypePath) (fs : List (List ℕ)) (s : List ℕ) → AreFamilies l arrows goal fs → IsMinimal (CoversGoal l arrows (listed goal)) s → IsMinimal (MeetsEach fs) s
  minimal_back goal fs s h m = record { ascending = m.ascending; covers = meets_from goal fs s h m.covers; minimal = (λ t u c. m.minimal t u (covers_from goal fs t h c)) }

  pub covers_goal : (goal : List TypePath) (fs list : List (List ℕ)) → AreFamilies l arrows goal fs → AreMinimal (MeetsEach fs) list → AreMinimal (CoversGoal l arrows (listed goal)) list
  covers_goal goal fs list h m = record { in_order = m.in_order; exactly = (λ s. ((λ k. minimal_to goal fs s h ((m.exactly s).0 k)), (λ k. (m.exactly s).1 (minimal_back goal fs s h k)))) }

  taken : (goal : List TypePath) (fs : List (List ℕ)) (j : ℕ) → AreFamilies l arrows goal fs → AreFamilies l arrows (take j goal) (take j fs)
  taken goal fs zero h = tt
  taken [] [] (suc j) h = tt
  taken [] (f ∷ fs) (suc j) h = absurd h
  taken (q ∷ goal) [] (suc j) h = absurd h
  taken (q ∷ goal) (f ∷ fs) (suc j) h = (h.0, taken goal fs j h.1)

  front_taken : (goal : List TypePath) (j : ℕ) → Front (listed (take j goal)) (listed goal)
  front_taken goal zero = no_front
  front_taken [] (suc j) = no_front
  front_taken (q ∷ goal) (suc j) = more_front (front_taken goal j)

  front_parts : (p q : TypePath) (n m : Paths) → Front (more p n) (more q m) → (p ≡ q) × Front n m
  front_parts p _ n m (more_front f) = (refl, f)

  taken_front : (front : Paths) (goal : List TypePath) → Front front (listed goal) → (j : ℕ) × (j ≤ length goal) × (front ≡ listed (take j goal))
  taken_front none goal f = (0, omega arith, refl)
  taken_front (more p front) [] f = elim f [ ]
  taken_front (more p front) (q ∷ goal) f =
      let u = front_parts p q front (listed goal) f in
      let r = taken_front front goal u.1 in
      let k : r.0 ≤ length goal = r.1 in
      (suc r.0, omega arith, ap (λ z. more z front) u.0 ∙ ap (more q) r.2)

  families_length : (goal : List TypePath) (fs : List (List ℕ)) → AreFamilies l arrows goal fs → length goal ≡ length fs
  families_length [] [] h = refl
  families_length [] (f ∷ fs) h = absurd h
  families_length (q ∷ goal) [] h = absurd h
  families_length (q ∷ goal) (f ∷ fs) h = ap suc (families_length goal fs h.1)

  more_to : (goal : List TypePath) (fs : List (List ℕ)) (n : ℕ) → AreFamilies l arrows goal fs → HasMore (MeetsEach fs) n → HasMore (CoversGoal l arrows (listed goal)) n
  more_to goal fs n h m = record { list = m.list; distinct = m.distinct; minimal = (λ s k. minimal_to goal fs s h (m.minimal s k)); more = m.more }

  more_back : (goal : List TypePath) (fs : List (List ℕ)) (n : ℕ) → AreFamilies l arrows goal fs → HasMore (CoversGoal l arrows (listed goal)) n → HasMore (MeetsEach fs) n
  more_back goal fs n h m = record { list = m.list; distinct = m.distinct; minimal = (λ s k. minimal_back goal fs s h (m.minimal s k)); more = m.more }

module _ (l : Library) (x n : ℕ) (goal : List TypePath) (fs : List (List ℕ)) (h : AreFamilies l (arrows_at l x n) goal fs) (w : n ≤ arity_of (paths_at l x)) where
  -- too many covers of a front of the families
  pub many_from : (j : ℕ) → HasMore (MeetsEach (take j fs)) max_covers → HasManyCovers l (listed goal) x n
  many_from j m = record { within = w; front = listed (take j goal); is_front = front_taken l (arrows_at l x n) goal j; over = more_to l (arrows_at l x n) (take j goal) (take j fs) max_covers (taken l (arrows_at l x n) goal fs j h) m }

  pub many_to : ((j : ℕ) → j ≤ length fs → HasMore (MeetsEach (take j fs)) max_covers → ⊥) → HasManyCovers l (listed goal) x n → ⊥
  many_to f m =
      let r = taken_front l (arrows_at l x n) m.front goal m.is_front in
      let e = families_length l (arrows_at l x n) goal fs h in
      let k : r.0 ≤ length goal = r.1 in
      f r.0 (omega arith) (more_back l (arrows_at l x n) (take r.0 goal) (take r.0 fs) max_covers (taken l (arrows_at l x n) goal fs r.0 h) (subst (λ p. HasMore (CoversGoal l (arrows_at l x n) p) max_covers) r.2 m.over))
