-- Each number of the first family is a minimal cover of it.
use Rattle.std.proofs.Common.{ℕ, ◌≡◌, ◌<◌, ◌≤◌, zero, suc, inl, refl, subst, ap, List, [], ◌∷◌, length, map, take, get_or, sym, arith, Some, None, slice_get}
use Rattle.std.proofs.lemmas.List.{length-map}
use Rattle.cls_base.specs.Terms.{Precedes}
use Rattle.cls_cover.specs.Members.{Member, first, later, Rises, Ascending, Differ}
use Rattle.cls_cover.specs.Lists.{Sublist, ends, keeps, drops}
use Rattle.cls_cover.specs.MemberCovers.{IsMinimalSet, SharesEach, AreCoverSets, HaveMoreSets}
use Rattle.cls_cover.specs.MemberFaults.{AreTooManySets}
use Rattle.cls_cover.specs.Growing.{single}
use Rattle.cls_cover.specs.Rows.{family_at}
use Rattle.cls_cover.proofs.Lists.{sublist_none, no_more_than}

from_single : (family : List ℕ) (s : List ℕ) → Member (map single family) s → (x : ℕ) × Member family x × (single x ≡ s)
from_single [] s m = elim m [ ]
from_single (x ∷ family) _ first = (x, first, refl)
from_single (x ∷ family) s (later m) = let r = from_single family s m in (r.0, later r.1, r.2)

same_single : (x y : ℕ) → single x ≡ single y → x ≡ y
same_single x y e = cc

singles_differ : (family : List ℕ) → Ascending family → Differ (map single family)
singles_differ [] a = tt
singles_differ (x ∷ family) a = ((λ m. let r = from_single family (single x) m in let e = same_single r.0 x r.2 in let l = a.0 r.0 r.1 in omega arith), singles_differ family a.1)

minimal_single : (family : List ℕ) (x : ℕ) → Member family x → IsMinimalSet (SharesEach (family ∷ [])) (single x)
minimal_single family x m = record { ascending = ((λ y n. elim n [ ]), tt); covers = (λ f i. meets f i); minimal = least }
  where
    meets : (f : List ℕ) → Member (family ∷ []) f → (i : ℕ) × Member f i × Member (single x) i
    meets _ first = (x, m, first)
    meets f (later i) = elim i [ ]

    nothing : (t : List ℕ) → t ≡ [] → SharesEach (family ∷ []) t → ⊥
    nothing t e c = let r = c family first in elim (subst (λ (u : List ℕ). Member u r.0) e r.2) [ ]

    least : (t : List ℕ) → Sublist t (single x) → SharesEach (family ∷ []) t → t ≡ single x
    least _ (keeps h) c = ap (λ u. x ∷ u) (sublist_none _ h)
    least t (drops h) c = absurd (nothing t (sublist_none t h) c)

first_many : (families : List (List ℕ)) (limit : ℕ) → Ascending (family_at families 0) → limit < length (family_at families 0) → HaveMoreSets (take 1 families) limit
first_many [] limit a w = let l : limit < 0 = w in absurd (omega arith)
first_many (family ∷ families) limit a w = record {
  list = map single family;
  differ = singles_differ family a;
  minimal = (λ s m. let r = from_single family s m in subst (λ (t : List ℕ). IsMinimalSet (SharesEach (family ∷ [])) t) r.2 (minimal_single family r.0 r.1));
  more = (let e = length-map family single in let l : limit < length family = w in omega arith);
}

-- The minimal covers of one family.
none_in : (s : List ℕ) → Sublist [] s
none_in [] = ends
none_in (x ∷ s) = drops (none_in s)

single_in : (s : List ℕ) (x : ℕ) → Member s x → Sublist (single x) s
single_in (x ∷ s) _ first = keeps (none_in s)
single_in (y ∷ s) x (later m) = drops (single_in s x m)
single_in [] x m = elim m [ ]

to_single : (family : List ℕ) (x : ℕ) → Member family x → Member (map single family) (single x)
to_single (x ∷ family) _ first = first
to_single (y ∷ family) x (later m) = later (to_single family x m)
to_single [] x m = elim m [ ]

singles_rise : (family : List ℕ) → Ascending family → Rises Precedes (map single family)
singles_rise [] a = tt
singles_rise (x ∷ family) a = ((λ t m. let r = from_single family t m in subst (λ (u : List ℕ). Precedes (single x) u) r.2 (inl (a.0 r.0 r.1))), singles_rise family a.1)

pub singles_cover : (family : List ℕ) → Ascending family → AreCoverSets (family ∷ []) (map single family)
singles_cover family a = record {
  in_order = singles_rise family a;
  exactly = (λ s. (
    (λ m. let r = from_single family s m in subst (λ (t : List ℕ). IsMinimalSet (SharesEach (family ∷ [])) t) r.2 (minimal_single family r.0 r.1)),
    (λ m.
        let r = m.covers family first in
        let e = m.minimal (single r.0) (single_in s r.0 r.2) (minimal_single family r.0 r.1).covers in
        subst (λ (t : List ℕ). Member (map single family) t) e (to_single family r.0 r.1)),
  ));
}

none_more : (limit : ℕ) → (limit ≡ 0 → ⊥) → HaveMoreSets [] limit → ⊥
none_more limit n h =
    let e = no_more_than h.list ([] ∷ []) h.differ (λ t m. subst (λ (u : List ℕ). Member ([] ∷ []) u) ((h.minimal t m).minimal [] (none t) (λ f i. elim i [ ])) first) in
    let l : limit < length h.list = h.more in
    n (omega arith)
  where
    none : (s : List ℕ) → Sublist [] s
    none [] = ends
    none (x ∷ s) = drops (none s)

-- the first family alone has too many
pub first_too_many : (families : List (List ℕ)) (limit : ℕ) → (limit ≡ 0 → ⊥) → ((l : 0 < length families) → Ascending (family_at families 0)) → limit < length (family_at families 0) → AreTooManySets families limit 1
first_too_many [] limit n a w = let l : limit < 0 = w in absurd (omega arith)
first_too_many (family ∷ families) limit n a w = record { within = omega arith; over = first_many (family ∷ families) limit (a (omega arith)) w; least = (λ i l m. none_more limit n (subst (λ k. HaveMoreSets (take k (family ∷ families)) limit) (let e : i ≡ 0 = omega arith in e) m)) }

pub no_first_length : (families : List (List ℕ)) → None ≡ slice_get families 0 → 0 ≡ length (family_at families 0)
no_first_length [] e = refl
no_first_length (family ∷ families) e = absurd cc

pub first_length : (families : List (List ℕ)) (family : List ℕ) → Some family ≡ slice_get families 0 → family ≡ family_at families 0
first_length [] family e = absurd cc
first_length (f ∷ families) family e = (cc)

-- one family has no more covers than positions
pub singles_within : (family : List ℕ) (limit : ℕ) → Ascending family → (limit ≡ 0 → ⊥) → length family ≤ limit → (j : ℕ) → HaveMoreSets (take j (family ∷ [])) limit → ⊥
singles_within family limit a n l zero h = none_more limit n h
singles_within family limit a n l (suc j) h =
    let k = subst (λ (fs : List (List ℕ)). HaveMoreSets (family ∷ fs) limit) (nothing j) h in
    let e = no_more_than k.list (map single family) k.differ (λ t m. ((singles_cover family a).exactly t).1 (k.minimal t m)) in
    let s = length-map family single in
    let m : limit < length k.list = k.more in omega arith
  where
    nothing : (j : ℕ) → take {A = List ℕ} j [] ≡ []
    nothing zero = refl
    nothing (suc j) = refl

-- a list of one family
one_only : {A : Type 0} (fs : List A) (f d : A) → 1 ≤ length fs → length fs < 2 → f ≡ get_or fs 0 d → fs ≡ f ∷ []
one_only [] f d l m e = absurd (omega arith)
one_only (g ∷ []) f d l m e = ap (λ h. h ∷ []) (sym e)
one_only (g ∷ h ∷ fs) f d l m e = absurd (omega arith)

module _ (families : List (List ℕ)) (family d : List ℕ) (l : 1 ≤ length families) (m : length families < 2) (e : family ≡ get_or families 0 d) (a : (i : 0 < length families) → Ascending (get_or families 0 [])) where
  whole : families ≡ family ∷ []
  whole = one_only families family d l m e

  rising : Ascending family
  rising = subst (λ (fs : List (List ℕ)). Ascending (get_or fs 0 [])) whole (a (omega arith))

  pub only_covers : (list : List (List ℕ)) → list ≡ map single family → AreCoverSets families list
  only_covers list f =
      subst (λ (fs : List (List ℕ)). AreCoverSets fs list) (sym whole)
      (subst (λ (all : List (List ℕ)). AreCoverSets (family ∷ []) all) (sym f) (singles_cover family rising))

  pub only_within : (limit : ℕ) → (limit ≡ 0 → ⊥) → length (family_at families 0) ≤ limit → (j : ℕ) → HaveMoreSets (take j families) limit → ⊥
  only_within limit n w j h =
      let k : length family ≤ limit = subst (λ (fs : List (List ℕ)). length (family_at fs 0) ≤ limit) whole w in
      singles_within family limit rising n k j (subst (λ (fs : List (List ℕ)). HaveMoreSets (take j fs) limit) whole h)
