-- From one layer to the next.
use Rattle.std.proofs.Common.{ℕ, zero, suc, ◌≡◌, ◌+◌, ◌<◌, ◌≤◌, ◌↔◌, ◌⊎◌, refl, sym, subst, ap, List, [], ◌∷◌, length, get_or, drop, arith, add-one}
use Rattle.std.specs.Prelude.{All, Contains, slice_get, IsSomeAnd}
use Rattle.std.proofs.lemmas.List.{get_or_past, nil_from_length, length-drop}
use Rattle.std.proofs.lemmas.List.Elements.{All-get_or}
use Rattle.std.proofs.Math.Seq.{drop-cons}
use native.Mathlib.Decide.{dec_lt}
use Rattle.cls_base.specs.Types.{ClosedType}
use Rattle.cls_base.specs.Lists.{AreBelow}
use Rattle.cls_base.proofs.Lists.{Contains-nil}
use Rattle.cls_path.specs.Paths.{TypePath, listed}
use Rattle.cls_library.specs.Arrows.{MultiArrow}
use Rattle.cls_library.specs.Libraries.{Library}
use Rattle.cls_library.specs.Families.{IsFamilyIn}
use Rattle.cls_check.specs.Checking.{path_total, Steps, BlockedFrom, IsBlocked, LeadsTo}
use Rattle.cls_check.specs.Layers.{AllBelow, AllMet}
use Rattle.cls_check.specs.Tests.{sets_at}
use Rattle.cls_check.proofs.Loops.{drop-one}

-- the steps by the family of the path
pub steps_exactly : (l : Library) (arrows : List MultiArrow) (q : TypePath) (family : List ℕ) (layer : List (List ℕ)) → IsFamilyIn l.taxonomy arrows q family → (s : List ℕ) → AllMet family layer s ↔ Steps l arrows layer q s
steps_exactly l arrows q family layer is s = ((λ h i leads. h i ((is.exactly i).1 leads)), (λ h i c. h i ((is.exactly i).0 c)))

-- where no arrow leads to the path, each set steps to any layer
pub steps_nowhere : (l : Library) (arrows : List MultiArrow) (q : TypePath) (family : List ℕ) (layer : List (List ℕ)) → IsFamilyIn l.taxonomy arrows q family → family ≡ [] → (s : List ℕ) → Steps l arrows layer q s
steps_nowhere l arrows q family layer is e s = λ i leads. absurd (Contains-nil i (subst (λ (f : List ℕ). Contains f i) e ((is.exactly i).1 leads)))

-- a family has positions of the arrows
pub family_below : (l : Library) (arrows : List MultiArrow) (q : TypePath) (family : List ℕ) → IsFamilyIn l.taxonomy arrows q family → AreBelow (length arrows) family
family_below l arrows q family is = below family (λ i c. inside arrows i (λ a. LeadsTo l (a ∷ []) q 0) ((is.exactly i).0 c))
  where
    inside : (arrows : List MultiArrow) (i : ℕ) (P : MultiArrow → Type 0) → IsSomeAnd (slice_get arrows i) P → i < length arrows
    inside [] i P h = absurd h
    inside (a ∷ arrows) zero P h = omega arith
    inside (a ∷ arrows) (suc i) P h = let r = inside arrows i P h in omega arith

    below : (family : List ℕ) → ((i : ℕ) → Contains family i → i < length arrows) → AreBelow (length arrows) family
    below [] f = tt
    below (i ∷ family) f = (f i (0, (omega arith), refl), below family (λ j c. f j (suc c.0, (let m = c.1 in omega arith), c.2)))

-- one step less
module _ (l : Library) (P : ClosedType → Type 0) (arrows : List MultiArrow) (n : ℕ) where
  abbrev pub Settled : TypePath → List (List ℕ) → List ℕ → Type 0
  Settled q layer s = IsBlocked l P arrows n s ⊎ Steps l arrows layer q s

  -- the way from the step on
  abbrev pub From : List TypePath → List (List ℕ) → List (List (List ℕ)) → ℕ → Type 0
  From goal start layers i = BlockedFrom l P arrows n (listed (drop i goal)) (sets_at start layers i) (drop i layers)

  pub from_step : (goal : List TypePath) (start : List (List ℕ)) (layers : List (List (List ℕ))) (i : ℕ) (q : TypePath) → q ≡ get_or goal i q → i < length goal → length layers ≡ length goal
      → From goal start layers i ↔ (All (Settled q (get_or layers i [])) (sets_at start layers i) × From goal start layers (i + 1))
  from_step goal start layers i q e m k =
      let f : drop i layers ≡ get_or layers i [] ∷ drop (i + 1) layers = rw add-one (drop-cons layers i [] (let h : i < length goal = m in omega arith)) in
      let one : drop i goal ≡ q ∷ drop (i + 1) goal = drop-one goal i q e m in
      let same : From goal start layers i ≡ BlockedFrom l P arrows n (listed (q ∷ drop (i + 1) goal)) (sets_at start layers i) (get_or layers i [] ∷ drop (i + 1) layers)
      = (λ j. BlockedFrom l P arrows n (listed (one j)) (sets_at start layers i) (f j)) in (
        (λ h. let r = subst (λ (T : Type 0). T) same h in (r.0, subst (λ (s : List (List ℕ)). BlockedFrom l P arrows n (listed (drop (i + 1) goal)) s (drop (i + 1) layers)) (next i) r.1)),
        (λ r. subst (λ (T : Type 0). T) (sym same) (r.0, subst (λ (s : List (List ℕ)). BlockedFrom l P arrows n (listed (drop (i + 1) goal)) s (drop (i + 1) layers)) (sym (next i)) r.1)),
      )
    where
      next : (j : ℕ) → get_or layers j [] ≡ sets_at start layers (j + 1)
      next j = rw add-one refl

  pub from_end : (goal : List TypePath) (start : List (List ℕ)) (layers : List (List (List ℕ))) (i : ℕ) → length goal ≤ i
      → From goal start layers i ↔ All (IsBlocked l P arrows n) (sets_at start layers i)
  from_end goal start layers i m =
      let none : drop i goal ≡ [] = nil_from_length (drop i goal) (simp length-drop (omega arith)) in
      let same : From goal start layers i ≡ BlockedFrom l P arrows n (listed []) (sets_at start layers i) (drop i layers) = (λ j. BlockedFrom l P arrows n (listed (none j)) (sets_at start layers i) (drop i layers)) in
      ((λ h. subst (λ (T : Type 0). T) same h), (λ h. subst (λ (T : Type 0). T) (sym same) h))

pub total_length : (ps : List TypePath) → path_total (listed ps) ≡ length ps
total_length [] = refl
total_length (p ∷ ps) = ap suc (total_length ps)

pub sets_below : (count : ℕ) (layers : List (List (List ℕ))) (i : ℕ) → All (AllBelow count) layers → AllBelow count (sets_at ([] ∷ []) layers i)
sets_below count layers zero h = start
  where
    start : AllBelow count ([] ∷ [])
    start zero d l = tt
    start (suc k) d l = absurd (omega arith)
sets_below count layers (suc i) h = by (dec_lt i (length layers))
  where
    by : Dec (i < length layers) → AllBelow count (get_or layers i [])
    by (yes l) = All-get_or (AllBelow count) layers i [] l h
    by (no n) = subst (λ (q : List (List ℕ)). AllBelow count q) (sym (get_or_past layers i [] (omega arith))) (λ k d l. let m : k < 0 = l in absurd (omega arith))
