-- Arrows that are kept, and their positions.
use Rattle.std.proofs.Common.{ℕ, zero, suc, ◌≡◌, ◌+◌, ◌-◌, ◌⊎◌, refl, ◌<◌, ◌≤◌, ◌↔◌, sym, ◌∙◌, subst, ap, inl, inr, List, [], ◌∷◌, length, get_or, ◌==◌, arith, Contains, Some, Bool, true}
use Rattle.std.specs.Prelude.{map, slice_get}
use Rattle.std.specs.List.{swap_remove}
use Rattle.std.proofs.Math.ListN.{set}
use Rattle.std.proofs.lemmas.Grind.{get_or-set_at}
use Rattle.std.proofs.lemmas.List.{get_or-set_other, get_or-take, length-take, length-set}
use Rattle.cls_base.specs.Lists.{AreBelow}
use Rattle.cls_base.specs.Taxonomies.{Variance}
use Rattle.cls_base.proofs.Lists.{AreBelow-at, Contains-here, Contains-later, Contains-nil, Contains-cases, Contains-at, Contains-map, Contains-from_map}
use Rattle.cls_path.specs.Paths.{TypePath, Paths, InPaths, Suits, SuitsAll}
use Rattle.cls_library.specs.Arrows.{MultiArrow}
use Rattle.cls_library.specs.Libraries.{Library}
use Rattle.cls_library.specs.Reaching.{PathLeIn}
use Rattle.cls_check.specs.Deciding.{no_arrow, arrow_of, source_of, sources_of, targets_of, SomeAbove, SomeBelow, IsLeading}
use Rattle.cls_check.proofs.Lists.{got, in_listed, listed_in}
use Rattle.cls_check.proofs.DecidingSteps.{any_default}

same_or_not : (j i : ℕ) → (j ≡ i) ⊎ (j ≡ i → ⊥)
same_or_not zero zero = inl refl
same_or_not zero (suc i) = inr (λ e. let f : 0 ≡ suc i = e in omega arith)
same_or_not (suc j) zero = inr (λ e. let f : suc j ≡ 0 = e in omega arith)
same_or_not (suc j) (suc i) = elim (same_or_not j i) [ inl e ↦ inl (ap suc e) | inr n ↦ inr (λ e. n (let f : suc j ≡ suc i = e in omega arith)) ]

pub below_each : (n : ℕ) (ks : List ℕ) → ((k : ℕ) → Contains ks k → k < n) → AreBelow n ks
below_each n [] f = tt
below_each n (k ∷ ks) f = (f k (Contains-here k ks), below_each n ks (λ j m. f j (Contains-later j k ks m)))

pub below_all : (n : ℕ) (ks : List ℕ) → AreBelow n ks → (k : ℕ) → Contains ks k → k < n
below_all n ks h k m =
    let l : get_or ks m.0 0 < n = AreBelow-at n ks m.0 h m.1 in
    let e : get_or ks m.0 0 ≡ k = any_default ks m.0 0 k m.1 ∙ m.2 in
    omega arith

-- what a test of a length says
pub none_kept : (n : ℕ) (b : Bool) → b ≡ (n == 0) → b ≡ true → n ≡ 0
none_kept n b e t = grind arith

-- what stands at a position is in the list, and what is in the list stands at a position
module _ {A : Type 0} (d : A) (xs : List A) where
  pub position_has : (k : ℕ) → k < length xs → Contains xs (get_or xs k d)
  position_has k l = (k, l, any_default xs k (get_or xs k d) d l)

  pub has_position : (x : A) → Contains xs x → (k : ℕ) × (k < length xs) × (get_or xs k d ≡ x)
  has_position x m = (m.0, m.1, any_default xs m.0 d x m.1 ∙ m.2)

module _ (arrows : List MultiArrow) where
  -- the arrow that a loop is at
  pub arrow_got : (i : ℕ) (a : MultiArrow) → slice_get arrows i ≡ Some a → arrow_of arrows i ≡ a
  arrow_got i a e = got arrows i a no_arrow (sym e)

  -- what holds of the arrow at each position holds of each arrow
  pub each_arrow : (P : MultiArrow → Type 0) (n : ℕ) → length arrows ≤ n → ((k : ℕ) → k < n → P (arrow_of arrows k)) → (a : MultiArrow) → Contains arrows a → P a
  each_arrow P n l f a m =
      let r = has_position no_arrow arrows a m in
      let i : r.0 < length arrows = r.1 in
      subst P r.2 (f r.0 (omega arith))

  -- the arrow at a position of a list of positions
  pub kept_at : (ps : List ℕ) (i : ℕ) (a : MultiArrow) → i < length ps → slice_get arrows (get_or ps i 0) ≡ Some a → slice_get (map (arrow_of arrows) ps) i ≡ Some a
  kept_at [] i a l e = absurd (let k : i < 0 = l in omega arith)
  kept_at (p ∷ ps) zero a l e = ap Some (arrow_got p a e)
  kept_at (p ∷ ps) (suc i) a l e = kept_at ps i a (let k : suc i < suc (length ps) = l in omega arith) e

  module _ (P : MultiArrow → Type 0) where
    -- positions of those of all arrows of which something holds
    pub kept_of_all : (ps : List ℕ) → ((k : ℕ) → Contains ps k ↔ ((k < length arrows) × P (arrow_of arrows k))) → (a : MultiArrow) → Contains (map (arrow_of arrows) ps) a ↔ (Contains arrows a × P a)
    kept_of_all ps f a = (
      (λ m.
          let r = Contains-from_map (arrow_of arrows) ps a m in
          let u = (f r.0).0 r.1 in
          subst (λ (b : MultiArrow). Contains arrows b × P b) (sym r.2) (position_has no_arrow arrows r.0 u.0, u.1)),
      (λ h.
          let r = has_position no_arrow arrows a h.0 in
          subst (λ (b : MultiArrow). Contains (map (arrow_of arrows) ps) b) r.2 (Contains-map (arrow_of arrows) ps r.0 ((f r.0).1 (r.1, subst P (sym r.2) h.1)))),
    )

-- one element is dropped, and the last takes its place
module _ {A : Type 0} (d : A) (xs new : List A) (i : ℕ) (l : i < length xs) (e : new ≡ swap_remove xs i d) where
  pub dropped_length : length new + 1 ≡ length xs
  dropped_length =
      let h = ap (λ (zs : List A). length zs) e in
      omega (arith, h, length-take (length xs - 1) (set xs i (get_or xs (length xs - 1) d)), length-set xs i (get_or xs (length xs - 1) d))

  taken : (k : ℕ) → k < length new → get_or new k d ≡ get_or (set xs i (get_or xs (length xs - 1) d)) k d
  taken k m = ap (λ (zs : List A). get_or zs k d) e ∙ get_or-take (length xs - 1) (set xs i (get_or xs (length xs - 1) d)) k d (omega (arith, dropped_length))

  moved : (k : ℕ) → k < length new → k ≡ i → get_or new k d ≡ get_or xs (length new) d
  moved k m f =
      let n : length xs - 1 ≡ length new = omega (arith, dropped_length) in
      taken k m ∙ (get_or-set_at xs i k (get_or xs (length xs - 1) d) d f l ∙ ap (λ (j : ℕ). get_or xs j d) n)

  stays : (k : ℕ) → k < length new → (k ≡ i → ⊥) → get_or new k d ≡ get_or xs k d
  stays k m f = taken k m ∙ get_or-set_other xs i k (get_or xs (length xs - 1) d) d f

  pub dropped_among : (x : A) → Contains new x → Contains xs x
  dropped_among x m =
      let r = has_position d new x m in
      subst (λ (y : A). Contains xs y) r.2 (at r.0 r.1 (same_or_not r.0 i))
    where
      at : (k : ℕ) → k < length new → (k ≡ i) ⊎ (k ≡ i → ⊥) → Contains xs (get_or new k d)
      at k m (inl f) = subst (λ (y : A). Contains xs y) (sym (moved k m f)) (position_has d xs (length new) (omega (arith, dropped_length)))
      at k m (inr f) = subst (λ (y : A). Contains xs y) (sym (stays k m f)) (position_has d xs k (omega (arith, dropped_length)))

  module _ (P : A → Type 0) where
    -- where nothing holds of what is dropped, all of which something holds stay
    pub dropped_keeps : (P (get_or xs i d) → ⊥) → (x : A) → Contains xs x → P x → Contains new x
    dropped_keeps not x m p =
        let r = has_position d xs x m in
        subst (λ (y : A). Contains new y) r.2 (at r.0 r.1 (subst P (sym r.2) p) (same_or_not r.0 i) (same_or_not r.0 (length new)))
      where
        less : (k : ℕ) → k < length xs → (k ≡ i → ⊥) → k ≡ length new → i < length new
        less k m f g = grind (arith, dropped_length)

        within : (k : ℕ) → k < length xs → (k ≡ length new → ⊥) → k < length new
        within k m g = grind (arith, dropped_length)

        at : (k : ℕ) → k < length xs → P (get_or xs k d) → (k ≡ i) ⊎ (k ≡ i → ⊥) → (k ≡ length new) ⊎ (k ≡ length new → ⊥) → Contains new (get_or xs k d)
        at k m h (inl f) g = absurd (not (subst (λ (j : ℕ). P (get_or xs j d)) f h))
        at k m h (inr f) (inl g) =
            let j : i < length new = less k m f g in
            subst (λ (y : A). Contains new y) (moved i j refl ∙ ap (λ (n : ℕ). get_or xs n d) (sym g)) (position_has d new i j)
        at k m h (inr f) (inr g) =
            let j : k < length new = within k m g in
            subst (λ (y : A). Contains new y) (stays k j f) (position_has d new k j)

    -- from there on it holds if it held behind
    pub dropped_done : ((k : ℕ) → i < k → k < length xs → P (get_or xs k d)) → (k : ℕ) → i ≤ k → k < length new → P (get_or new k d)
    dropped_done f k b m = at (same_or_not k i)
      where
        above : (k : ℕ) → i ≤ k → (k ≡ i → ⊥) → i < k
        above k b g = grind arith

        at : (k ≡ i) ⊎ (k ≡ i → ⊥) → P (get_or new k d)
        at (inl g) = subst P (sym (moved k m g)) (f (length new) (omega arith) (omega (arith, dropped_length)))
        at (inr g) = subst P (sym (stays k m g)) (f k (above k b g) (omega (arith, dropped_length)))

-- one position more at the front
pub done_more : (Q : ℕ → Type 0) (i n : ℕ) → Q i → ((k : ℕ) → i < k → k < n → Q k) → (k : ℕ) → i ≤ k → k < n → Q k
done_more Q i n q f k b m = at (same_or_not k i)
  where
    above : (k : ℕ) → i ≤ k → (k ≡ i → ⊥) → i < k
    above k b g = grind arith

    at : (k ≡ i) ⊎ (k ≡ i → ⊥) → Q k
    at (inl g) = subst Q (sym g) q
    at (inr g) = f k (above k b g) m

pub dropped_below : (n : ℕ) (ps qs : List ℕ) (i p : ℕ) → i < length ps → qs ≡ swap_remove ps i p → AreBelow n ps → AreBelow n qs
dropped_below n ps qs i p l e h = below_each n qs (λ k m. below_all n ps h k (dropped_among p ps qs i l e k m))

-- the target of one of the arrows
pub target_suits : (v : ℕ → Variance) (arrows : List MultiArrow) (a : MultiArrow) → Contains arrows a → SuitsAll v (targets_of arrows) → Suits v a.target
target_suits v [] a m s = absurd (Contains-nil a m)
target_suits v (b ∷ arrows) a m s = elim (Contains-cases b arrows a m) [
  | inl e ↦ subst (λ (c : MultiArrow). Suits v c.target) (sym e) s.0
  | inr k ↦ target_suits v arrows a k s.1
]

module _ (lib : Library) where
  pub target_below : (arrows : List MultiArrow) (i : ℕ) (a : MultiArrow) (q : TypePath) → slice_get arrows i ≡ Some a → PathLeIn lib a.target q → SomeBelow lib (targets_of arrows) q
  target_below arrows i a q e h = (a.target, listed_in (λ (b : MultiArrow). b.target) arrows a (Contains-at arrows i a e), h)

  pub none_below : (arrows : List MultiArrow) (n : ℕ) (q : TypePath) → length arrows ≤ n → ((k : ℕ) → k < n → PathLeIn lib (arrow_of arrows k).target q → ⊥) → SomeBelow lib (targets_of arrows) q → ⊥
  none_below arrows n q l f h =
      let r = in_listed (λ (b : MultiArrow). b.target) arrows h.0 h.1 in
      each_arrow arrows (λ b. PathLeIn lib b.target q → ⊥) n l f r.0 r.1 (subst (λ (p : TypePath). PathLeIn lib p q) (sym r.2) h.2)

  -- what leads to the source of an arrow leads to one of the goals
  pub source_leads : (arrows : List MultiArrow) (i : ℕ) (a : MultiArrow) (place : ℕ) (p : TypePath) → slice_get arrows i ≡ Some a → SomeAbove lib (source_of a place) p → IsLeading lib (sources_of arrows place) p
  source_leads arrows i a place p e h = (h.0, (source_of a place, Contains-map (λ (b : MultiArrow). source_of b place) arrows a (Contains-at arrows i a e), h.1), h.2)

  pub none_leads : (arrows : List MultiArrow) (n place : ℕ) (p : TypePath) → length arrows ≤ n → ((k : ℕ) → k < n → SomeAbove lib (source_of (arrow_of arrows k) place) p → ⊥) → IsLeading lib (sources_of arrows place) p → ⊥
  none_leads arrows n place p l f h =
      let r = Contains-from_map (λ (b : MultiArrow). source_of b place) arrows h.1.0 h.1.1 in
      each_arrow arrows (λ b. SomeAbove lib (source_of b place) p → ⊥) n l f r.0 r.1 (h.0, subst (λ (m : Paths). InPaths m h.0) r.2 h.1.2, h.2)

  -- one goal alone
  pub goal_leads : (n : Paths) (p : TypePath) → SomeAbove lib n p ↔ IsLeading lib (n ∷ []) p
  goal_leads n p = (
    (λ h. (h.0, (n, Contains-here n [], h.1), h.2)),
    (λ h. elim (Contains-cases n [] h.1.0 h.1.1) [
      | inl e ↦ (h.0, subst (λ (m : Paths). InPaths m h.0) e h.1.2, h.2)
      | inr m ↦ absurd (Contains-nil h.1.0 m)
    ]),
  )
