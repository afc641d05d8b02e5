-- The families of a goal's paths at a place are those that are computed.
use Rattle.std.proofs.Common.{ℕ, zero, suc, ◌≡◌, ◌+◌, ◌<◌, ◌≤◌, Bool, true, false, refl, subst, inl, inr, List, [], ◌∷◌, arith, Contains}
use Rattle.std.specs.Prelude.{slice_get, IsSomeAnd}
use Rattle.cls_base.proofs.Lists.{Contains-nil, Contains-here, Contains-later, Contains-cases}
use Rattle.cls_taxon.specs.Decisions.{is_below}
use Rattle.cls_taxon.specs.DecisionLaws.{is_below-reflexive, is_below-transitive, is_below-one_variance}
use Rattle.cls_path.specs.Paths.{TypePath, listed, Suits, SuitsAll}
use Rattle.cls_path.proofs.Decided.{le_tested, tested_le}
use Rattle.cls_cover.specs.Lists.{IsAscending}
use Rattle.cls_cover.proofs.Ascending.{ascending}
use Rattle.cls_library.specs.Arrows.{MultiArrow}
use Rattle.cls_library.specs.Families.{IsFamilyIn, AreFamilies}
use Rattle.cls_library.specs.Libraries.{Library, IsLibrary, variances_in, arrows_at}
use Rattle.cls_library.specs.Reaching.{PathLeIn}
use Rattle.cls_library.proofs.ByCases.{At, at_first, at_later}
use Rattle.cls_library.proofs.LibraryTyping.{arrow_leads}
use Rattle.cls_cert.specs.Computed.{put_if, leads, positions_from, families_by}
use Rattle.cls_cert.proofs.Empty.{increasing}
use Rattle.cls_cert.proofs.Unique.{one_ascending}

put_here : (b : Bool) (i : ℕ) (s : List ℕ) → b ≡ true → Contains (put_if b i s) i
put_here true i s e = Contains-here i s
put_here false i s e = absurd (let f : false ≡ true = e in cc)

put_later : (b : Bool) (i : ℕ) (s : List ℕ) (j : ℕ) → Contains s j → Contains (put_if b i s) j
put_later true i s j m = Contains-later j i s m
put_later false i s j m = m

put_ascends : (b : Bool) (i : ℕ) (s : List ℕ) → ((j : ℕ) → Contains s j → i < j) → IsAscending s → IsAscending (put_if b i s)
put_ascends true i s f a = (f, a)
put_ascends false i s f a = a

put_low : (b : Bool) (i : ℕ) (s : List ℕ) (j : ℕ) → Contains (put_if b i s) j → (Contains s j → suc i ≤ j) → i ≤ j
put_low true i s j m f = elim (Contains-cases i s j m) [
  | inl e ↦ (let g : j ≡ i = e in omega arith)
  | inr k ↦ (let g : suc i ≤ j = f k in omega arith)
]
put_low false i s j m f = let g : suc i ≤ j = f m in omega arith

module _ (l : Library) where
  pub positions_have : (q : TypePath) (s : ℕ) (arrows : List MultiArrow) (i : ℕ) → IsSomeAnd (slice_get arrows i) (λ a. PathLeIn l a.target q) → Contains (positions_from l q s arrows) (s + i)
  positions_have q s [] i h = absurd h
  positions_have q s (a ∷ arrows) zero h =
      subst (λ (n : ℕ). Contains (positions_from l q s (a ∷ arrows)) n) (let e : s ≡ s + 0 = omega arith in e)
      (put_here (leads l a q) s (positions_from l q (suc s) arrows) (le_tested (is_below l.taxonomy) (variances_in l.taxonomy) h))
  positions_have q s (a ∷ arrows) (suc i) h =
      subst (λ (n : ℕ). Contains (positions_from l q s (a ∷ arrows)) n) (let e : suc s + i ≡ s + suc i = omega arith in e)
      (put_later (leads l a q) s (positions_from l q (suc s) arrows) (suc s + i) (positions_have q (suc s) arrows i h))

  positions_low : (q : TypePath) (s : ℕ) (arrows : List MultiArrow) (j : ℕ) → Contains (positions_from l q s arrows) j → s ≤ j
  positions_low q s [] j m = absurd (Contains-nil j m)
  positions_low q s (a ∷ arrows) j m = put_low (leads l a q) s (positions_from l q (suc s) arrows) j m (positions_low q (suc s) arrows j)

  pub positions_ascend : (q : TypePath) (s : ℕ) (arrows : List MultiArrow) → IsAscending (positions_from l q s arrows)
  positions_ascend q s [] = tt
  positions_ascend q s (a ∷ arrows) =
      put_ascends (leads l a q) s (positions_from l q (suc s) arrows)
      (λ j m. let g : suc s ≤ j = positions_low q (suc s) arrows j m in omega arith)
      (positions_ascend q (suc s) arrows)

  -- the arrow that stands at the position, counted from s on, leads to the path
  abbrev IsAt : TypePath → ℕ → List MultiArrow → ℕ → Type 0
  IsAt q s arrows n = (i : ℕ) × (n ≡ s + i) × IsSomeAnd (slice_get arrows i) (λ a. PathLeIn l a.target q)

  module _ (q : TypePath) (suits : Suits (variances_in l.taxonomy) q) where
    positions_at : (s : ℕ) (arrows : List MultiArrow) → ((i : ℕ) (a : MultiArrow) → At arrows i a → Suits (variances_in l.taxonomy) a.target) → (n : ℕ) → Contains (positions_from l q s arrows) n → IsAt q s arrows n
    positions_at s [] f n m = absurd (Contains-nil n m)
    positions_at s (a ∷ arrows) f n m = by (λ k. positions_at (suc s) arrows (λ i b u. f (suc i) b (at_later u)) n k) (leads l a q) refl m
      where
        next : IsAt q (suc s) arrows n → IsAt q s (a ∷ arrows) n
        next r = (suc r.0, (let e : n ≡ suc s + r.0 = r.1 in omega arith), r.2)

        by : (Contains (positions_from l q (suc s) arrows) n → IsAt q (suc s) arrows n) → (b : Bool) → leads l a q ≡ b → Contains (put_if b s (positions_from l q (suc s) arrows)) n → IsAt q s (a ∷ arrows) n
        by others true e k = elim (Contains-cases s (positions_from l q (suc s) arrows) n k) [
          | inl g ↦ (0, (let h : n ≡ s = g in omega arith), tested_le (is_below l.taxonomy) (variances_in l.taxonomy) (is_below-reflexive l.taxonomy) (is_below-transitive l.taxonomy) (is_below-one_variance l.taxonomy) a.target q (f 0 a at_first) suits e)
          | inr j ↦ next (others j)
        ]
        by others false e k = next (others k)

  module _ (is : IsLibrary l) (x n : ℕ) where
    -- the arrow at a position leads to the path, by the test
    pub leads_at : (q : TypePath) → Suits (variances_in l.taxonomy) q → (i : ℕ) → Contains (positions_from l q 0 (arrows_at l x n)) i → IsSomeAnd (slice_get (arrows_at l x n) i) (λ a. PathLeIn l a.target q)
    leads_at q suits i m =
        let r = positions_at q suits 0 (arrows_at l x n) (arrow_leads l is x n) i m in
        subst (λ (j : ℕ). IsSomeAnd (slice_get (arrows_at l x n) j) (λ a. PathLeIn l a.target q)) (let e : i ≡ 0 + r.0 = r.1 in let f : r.0 ≡ i = omega arith in f) r.2

    pub leads_back : (q : TypePath) (i : ℕ) → IsSomeAnd (slice_get (arrows_at l x n) i) (λ a. PathLeIn l a.target q) → Contains (positions_from l q 0 (arrows_at l x n)) i
    leads_back q i h =
        subst (λ (j : ℕ). Contains (positions_from l q 0 (arrows_at l x n)) j) (let e : 0 + i ≡ i = omega arith in e) (positions_have q 0 (arrows_at l x n) i h)

    family_is : (q : TypePath) → Suits (variances_in l.taxonomy) q → IsFamilyIn l.taxonomy (arrows_at l x n) q (positions_from l q 0 (arrows_at l x n))
    family_is q suits = record {
      ascends = increasing (positions_from l q 0 (arrows_at l x n)) (positions_ascend q 0 (arrows_at l x n));
      exactly = λ i. (leads_at q suits i, leads_back q i);
    }

    same_family : (q : TypePath) → Suits (variances_in l.taxonomy) q → (f : List ℕ) → IsFamilyIn l.taxonomy (arrows_at l x n) q f → f ≡ positions_from l q 0 (arrows_at l x n)
    same_family q suits f h =
        one_ascending f (positions_from l q 0 (arrows_at l x n)) (ascending f h.ascends) (positions_ascend q 0 (arrows_at l x n))
        (λ i m. leads_back q i ((h.exactly i).0 m)) (λ i m. (h.exactly i).1 (leads_at q suits i m))

    -- those of all paths
    pub families_are : (goal : List TypePath) → SuitsAll (variances_in l.taxonomy) (listed goal) → AreFamilies l (arrows_at l x n) goal (families_by l (arrows_at l x n) (listed goal))
    families_are [] s = tt
    families_are (q ∷ goal) s = (family_is q s.0, families_are goal s.1)

    pub same_families : (goal : List TypePath) → SuitsAll (variances_in l.taxonomy) (listed goal) → (fs : List (List ℕ)) → AreFamilies l (arrows_at l x n) goal fs → fs ≡ families_by l (arrows_at l x n) (listed goal)
    same_families [] s [] h = refl
    same_families [] s (f ∷ fs) h = absurd h
    same_families (q ∷ goal) s [] h = absurd h
    same_families (q ∷ goal) s (f ∷ fs) h = λ j. same_family q s.0 f h.0 j ∷ same_families goal s.1 fs h.1 j
