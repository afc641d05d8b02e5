-- Covers against arrows: what a cover says of the arguments.
use Rattle.std.proofs.Common.{ℕ, zero, suc, ◌≡◌, Bool, true, false, refl, sym, ◌∙◌, subst, ◌⊎◌, inl, inr, List, [], ◌∷◌}
use Rattle.cls_taxon.specs.Decisions.{is_below}
use Rattle.cls_taxon.specs.DecisionLaws.{is_below-reflexive, is_below-transitive, is_below-one_variance}
use Rattle.cls_path.specs.Paths.{TypePath, Paths, none, more, InPaths, first_in, later_in, Suits, SuitsAll}
use Rattle.cls_path.specs.Tests.{path_below}
use Rattle.cls_path.proofs.Decided.{le_tested, tested_le}
use Rattle.cls_cover.specs.Members.{Member, first, later, Ascending}
use Rattle.cls_cover.specs.Covers.{IsMinimal}
use Rattle.cls_cover.specs.Lists.{IsAscending}
use Rattle.cls_cover.specs.MemberCovers.{IsMinimalSet}
use Rattle.cls_cover.proofs.Lists.{contains_member, member_contains, sublist_member}
use Rattle.cls_cover.proofs.Extension.{minimal_in, put}
use Rattle.cls_library.specs.Arrows.{MultiArrow}
use Rattle.cls_library.specs.Libraries.{Library, variances_in}
use Rattle.cls_library.specs.Reaching.{PathLeIn, CoversGoal}
use Rattle.cls_library.proofs.ByCases.{At, at_first, at_later, at_unique, some_at, at_some}

members_ascending : (s : List ℕ) → Ascending s → IsAscending s
members_ascending [] a = tt
members_ascending (x ∷ s) a = ((λ y m. a.0 y (contains_member s y m)), members_ascending s a.1)

look : {A : Type 0} (xs : List A) (i : ℕ) → ((x : A) × At xs i x) ⊎ ((x : A) → At xs i x → ⊥)
look [] i = inr (λ x h. elim h [ ])
look (x ∷ xs) zero = inl (x, at_first)
look {A} (x ∷ xs) (suc i) = go (look xs i)
  where
    go : ((y : A) × At xs i y) ⊎ ((y : A) → At xs i y → ⊥) → ((y : A) × At (x ∷ xs) (suc i) y) ⊎ ((y : A) → At (x ∷ xs) (suc i) y → ⊥)
    go (inl r) = inl (r.0, at_later r.1)
    go (inr f) = inr (λ y h. passed y h)
      where
        passed : (y : A) → At (x ∷ xs) (suc i) y → ⊥
        passed y (at_later h) = f y h

-- whether one path that suits is below another
pub decide_le : (lib : Library) (p q : TypePath) → Suits (variances_in lib.taxonomy) p → Suits (variances_in lib.taxonomy) q → PathLeIn lib p q ⊎ (PathLeIn lib p q → ⊥)
decide_le lib p q s t = go (path_below (is_below lib.taxonomy) (variances_in lib.taxonomy) p q) refl
  where
    go : (b : Bool) → path_below (is_below lib.taxonomy) (variances_in lib.taxonomy) p q ≡ b → PathLeIn lib p q ⊎ (PathLeIn lib p q → ⊥)
    go true e = inl (tested_le (is_below lib.taxonomy) (variances_in lib.taxonomy) (is_below-reflexive lib.taxonomy) (is_below-transitive lib.taxonomy) (is_below-one_variance lib.taxonomy) p q s t e)
    go false e = inr (λ h. let f : true ≡ false = sym (le_tested (is_below lib.taxonomy) (variances_in lib.taxonomy) h) ∙ e in cc)

-- each arrow leads to a path that suits
abbrev pub Lead : Library → List MultiArrow → Type 0
Lead lib arrows = (i : ℕ) (a : MultiArrow) → At arrows i a → Suits (variances_in lib.taxonomy) a.target

module _ (lib : Library) (arrows : List MultiArrow) (lead : Lead lib arrows) where
  -- an arrow at one of the positions with a target below the path
  abbrev Meets : TypePath → List ℕ → Type 0
  Meets q s = (i : ℕ) × (a : MultiArrow) × Member s i × At arrows i a × PathLeIn lib a.target q

  abbrev Covers : Paths → List ℕ → Type 0
  Covers g s = (q : TypePath) → InPaths g q → Meets q s

  -- the same in std's words
  pub to_goal : (g : Paths) (s : List ℕ) → Covers g s → CoversGoal lib arrows g s
  to_goal g s h q i = let r = h q i in (r.0, member_contains r.2, at_some (λ (a : MultiArrow). PathLeIn lib a.target q) r.3 r.4)

  pub from_goal : (g : Paths) (s : List ℕ) → CoversGoal lib arrows g s → Covers g s
  from_goal g s h q i =
      let r = h q i in
      let u = some_at (λ (a : MultiArrow). PathLeIn lib a.target q) arrows r.0 r.2 in
      (r.0, u.0, contains_member s r.0 r.1, u.1, u.2)

  to_minimal : (g : Paths) (s : List ℕ) → IsMinimalSet (Covers g) s → IsMinimal (CoversGoal lib arrows g) s
  to_minimal g s m = record { ascending = members_ascending s m.ascending; covers = to_goal g s m.covers; minimal = (λ t h c. m.minimal t h (from_goal g t c)) }

  decide_at : (q : TypePath) → Suits (variances_in lib.taxonomy) q → (i : ℕ) → ((a : MultiArrow) × At arrows i a × PathLeIn lib a.target q) ⊎ ((a : MultiArrow) → At arrows i a → PathLeIn lib a.target q → ⊥)
  decide_at q t i = go (look arrows i)
    where
      test : (a : MultiArrow) → At arrows i a → PathLeIn lib a.target q ⊎ (PathLeIn lib a.target q → ⊥) → ((b : MultiArrow) × At arrows i b × PathLeIn lib b.target q) ⊎ ((b : MultiArrow) → At arrows i b → PathLeIn lib b.target q → ⊥)
      test a h (inl l) = inl (a, h, l)
      test a h (inr f) = inr (λ b k l. f (subst (λ (c : MultiArrow). PathLeIn lib c.target q) (at_unique arrows i b a k h) l))

      go : ((a : MultiArrow) × At arrows i a) ⊎ ((a : MultiArrow) → At arrows i a → ⊥) → ((a : MultiArrow) × At arrows i a × PathLeIn lib a.target q) ⊎ ((a : MultiArrow) → At arrows i a → PathLeIn lib a.target q → ⊥)
      go (inl r) = test r.0 r.1 (decide_le lib r.0.target q (lead i r.0 r.1) t)
      go (inr f) = inr (λ a h l. f a h)

  decide_meets : (q : TypePath) → Suits (variances_in lib.taxonomy) q → (s : List ℕ) → Meets q s ⊎ (Meets q s → ⊥)
  decide_meets q t [] = inr (λ h. elim h.2 [ ])
  decide_meets q t (i ∷ s) = go (decide_at q t i) (decide_meets q t s)
    where
      refute : ((a : MultiArrow) → At arrows i a → PathLeIn lib a.target q → ⊥) → (Meets q s → ⊥) → (j : ℕ) (a : MultiArrow) → Member (i ∷ s) j → At arrows j a → PathLeIn lib a.target q → ⊥
      refute f g _ a first h l = f a h l
      refute f g j a (later m) h l = g (j, a, m, h, l)

      go : ((a : MultiArrow) × At arrows i a × PathLeIn lib a.target q) ⊎ ((a : MultiArrow) → At arrows i a → PathLeIn lib a.target q → ⊥) → Meets q s ⊎ (Meets q s → ⊥) → Meets q (i ∷ s) ⊎ (Meets q (i ∷ s) → ⊥)
      go (inl r) u = inl (i, r.0, first, r.1, r.2)
      go (inr f) (inl r) = inl (r.0, r.1, later r.2, r.3, r.4)
      go (inr f) (inr g) = inr (λ h. refute f g h.0 h.1 h.2 h.3 h.4)

  pub covers_more : (q : TypePath) (g : Paths) (s : List ℕ) → Meets q s → Covers g s → Covers (more q g) s
  covers_more q g s h k _ first_in = h
  covers_more q g s h k r (later_in i) = k r i

  pub decide_covers : (g : Paths) → SuitsAll (variances_in lib.taxonomy) g → (s : List ℕ) → Covers g s ⊎ (Covers g s → ⊥)
  decide_covers none t s = inl (λ q i. elim i [ ])
  decide_covers (more q g) t s = go (decide_meets q t.0 s) (decide_covers g t.1 s)
    where
      go : Meets q s ⊎ (Meets q s → ⊥) → Covers g s ⊎ (Covers g s → ⊥) → Covers (more q g) s ⊎ (Covers (more q g) s → ⊥)
      go (inl h) (inl k) = inl (λ r i. covers_more q g s h k r i)
      go (inl h) (inr f) = inr (λ k. f (λ r i. k r (later_in i)))
      go (inr f) u = inr (λ k. f (k q first_in))

  -- a larger set covers too
  pub covers_wider : (g : Paths) (s t : List ℕ) → ((i : ℕ) → Member s i → Member t i) → Covers g s → Covers g t
  covers_wider g s t f h q i = let r = h q i in (r.0, r.1, f r.0 r.2, r.3, r.4)

  -- where each path is met by a good position, a minimal cover has good positions alone
  pub choose : (Good : ℕ → Type 0) (g : Paths) → ((q : TypePath) → InPaths g q → (i : ℕ) × (a : MultiArrow) × Good i × At arrows i a × PathLeIn lib a.target q) → (s : List ℕ) × Ascending s × Covers g s × ((i : ℕ) → Member s i → Good i)
  choose Good none f = ([], tt, (λ q i. elim i [ ]), (λ i m. elim m [ ]))
  choose Good (more q g) f =
      let r = choose Good g (λ p i. f p (later_in i)) in
      let u = f q first_in in
      let t = put u.0 r.0 r.1 in
      (t.0, t.1.ascending, covers_more q g t.0 (u.0, u.1, t.1.has, u.3, u.4) (covers_wider g r.0 t.0 (λ i m. t.1.kept i m) r.2), (λ i m. good r.0 u.0 u.2 r.3 i (t.1.origin i m)))
    where
      good : (s : List ℕ) (j : ℕ) → Good j → ((i : ℕ) → Member s i → Good i) → (i : ℕ) → Member (j ∷ s) i → Good i
      good s j h k _ first = h
      good s j h k i (later m) = k i m

  pub choose_minimal : (Good : ℕ → Type 0) (g : Paths) → SuitsAll (variances_in lib.taxonomy) g → ((q : TypePath) → InPaths g q → (i : ℕ) × (a : MultiArrow) × Good i × At arrows i a × PathLeIn lib a.target q) → (s : List ℕ) × IsMinimal (CoversGoal lib arrows g) s × ((i : ℕ) → Member s i → Good i)
  choose_minimal Good g t f =
      let r = choose Good g f in
      let u = minimal_in (Covers g) (λ s. decide_covers g t s) r.0 r.1 r.2 in
      (u.0, to_minimal g u.0 u.2, (λ i m. r.3 i (sublist_member i u.1 m)))
