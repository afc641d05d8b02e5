-- The places of the arrows of a component, one number of arguments after another.
use Rattle.std.proofs.Common.{◌≡◌, ℕ, zero, suc, ◌⊎◌, inl, inr, ◌+◌, ◌<◌, ◌≤◌, List, [], ◌∷◌, ◌++◌, length, get_or, Some, refl, sym, subst, ap, ◌∙◌, arith}
use Rattle.std.proofs.lemmas.List.{get_or_append_left, get_or_push, get_or_default}
use Rattle.std.specs.Prelude.{Contains, slice_get}
use Rattle.std.proofs.lemmas.Option.{slice_get_within}
use Rattle.cls_base.specs.Lists.{AreBelow}
use Rattle.cls_base.proofs.Lists.{Contains-place}
use Rattle.cls_path.specs.Paths.{TypePath, Paths, listed}
use Rattle.cls_library.specs.declared.ending.Ending.{Ending}
use Rattle.cls_library.specs.Arrows.{arity_of, arrows_of}
use Rattle.cls_library.specs.Endings.{IsKept}
use Rattle.cls_library.specs.Splits.{numbers_from, places_from, arrows_at_places}
use Rattle.cls_library.proofs.Places.{places-below, arrows-places}

pub columns-more : (ps : List TypePath) (columns : List (List ℕ)) (count : ℕ) (column : List ℕ) → length columns ≡ count → ((k : ℕ) → k < count → get_or columns k [] ≡ places_from k 0 ps) → column ≡ places_from count 0 ps
    → (k : ℕ) → k < count + 1 → get_or (columns ++ column ∷ []) k [] ≡ places_from k 0 ps
columns-more ps columns count column e h is k l = elim (at-end k count l) [
  | inl m ↦ get_or_append_left columns (column ∷ []) [] k (omega arith) ∙ h k m
  | inr m ↦ get_or_push columns column [] k (e ∙ sym m) ∙ is ∙ ap (λ j. places_from j 0 ps) (sym m)
]
  where
    at-end : (k n : ℕ) → k < n + 1 → (k < n) ⊎ (k ≡ n)
    at-end zero zero m = inr refl
    at-end zero (suc n) m = inl (omega arith)
    at-end (suc k) zero m = absurd (omega arith)
    at-end (suc k) (suc n) m = elim (at-end k n (omega arith)) [ inl a ↦ inl (omega arith) | inr e ↦ inr (omega arith) ]

module _ (paths : List TypePath) (columns : List (List ℕ)) (kinds : List Ending) (endings : List ℕ) (h : IsKept paths columns kinds endings) (whole : Paths) (same : listed paths ≡ whole) (n : ℕ) (l : n ≤ arity_of whole) (column : List ℕ)
    (is : column ≡ get_or columns n column) where
  within : n ≤ arity_of (listed paths)
  within = subst (λ m. n ≤ arity_of m) (sym same) l

  pub column-places : column ≡ places_from n 0 paths
  column-places = is ∙ get_or_default columns n column [] (let c = h.count in let w = within in omega arith) ∙ h.each n within

  pub column-below : AreBelow (length paths) column
  column-below = subst (AreBelow (length paths)) (sym column-places) (places-below n paths 0 (length paths) (omega arith))

  pub column-arrows : arrows_at_places n paths column ≡ arrows_of n whole
  column-arrows = ap (arrows_at_places n paths) column-places ∙ arrows-places n paths ∙ ap (arrows_of n) same

-- numbers one after another
pub numbers-length : (i n : ℕ) → length (numbers_from i n) ≡ n
numbers-length i zero = refl
numbers-length i (suc n) = ap suc (numbers-length (i + 1) n)

pub numbers-at : (i n k : ℕ) → k < n → slice_get (numbers_from i n) k ≡ Some (i + k)
numbers-at i zero k l = absurd (omega arith)
numbers-at i (suc n) zero l = ap (λ (x : ℕ). Some x) (let e : i ≡ i + 0 = omega arith in e)
numbers-at i (suc n) (suc k) l = numbers-at (i + 1) n k (omega arith) ∙ ap (λ (x : ℕ). Some x) (let e : i + 1 + k ≡ i + suc k = omega arith in e)

pub numbers-below : (i n x : ℕ) → Contains (numbers_from i n) x → x < i + n
numbers-below i n x c =
    let r = Contains-place (numbers_from i n) x c in
    let w = slice_get_within (numbers_from i n) r.0 x r.1 in
    let m = numbers-length i n in
    let both : Some x ≡ Some (i + r.0) = sym r.1 ∙ numbers-at i n r.0 (omega arith) in
    let e : x ≡ i + r.0 = cc in
    omega arith
