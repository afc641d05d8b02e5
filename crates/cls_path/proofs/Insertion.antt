-- A path put into a normal list gives the normal form of the intersection.
use Rattle.std.proofs.Common.{◌≡◌, refl, sym, ◌∙◌, ap, subst, ℕ, Bool, true, false, cond, List, [], ◌∷◌, ◌||◌, ◌⊎◌, inl, inr}
use Rattle.std.specs.Prelude.{filter, not}
use Rattle.std.specs.declared.cmp.Ordering.{Ordering}
use Rattle.std.specs.declared.cmp.Ordering.TheVariants.{Less, Equal, Greater}
use Rattle.std.specs.Ordering.{is_lt}
use Rattle.std.proofs.lemmas.Bool.{false≢true}
use Rattle.cls_base.specs.Types.{meet}
use Rattle.cls_base.specs.Taxonomies.{Variance}
use Rattle.cls_base.specs.Taxa.{Below}
use Rattle.cls_path.specs.Paths.{TypePath, atom, inside, unit, left, right, function, sealed, Paths, none, more, PathLe, PathsLe, empty, each, first_in, later_in, append, paths_of, type_of_path, type_of_paths, Suits, SuitsAll, listed}
use Rattle.cls_path.specs.NormalForms.{PathBefore, Leads, IsSorted, IsSortedPath, LeadsAntichain, IsCanonicalPath, IsCanonical, IsNormal, IsNormalForm}
use Rattle.cls_path.specs.PathOrder.{path_order}
use Rattle.cls_path.specs.OrderLaws.{order_same}
use Rattle.cls_path.specs.Tests.{path_below, some_below}
use Rattle.cls_path.specs.Insertion.{place, without_above}
use Rattle.cls_path.proofs.Sorting.{less_before, path_order-greater}
use Rattle.cls_path.proofs.Completeness.{In, in_append, in_append_left, in_append_right, Some, covered, covers_all, le_refl, covers_subset, suits_in}
use Rattle.cls_path.proofs.RoundTrip.{path_back, paths_back}
use Rattle.cls_path.proofs.Decided.{le_tested, tested_le, tested_some}
use Rattle.cls_path.proofs.Uniqueness.{before_trans}

pub or_no_left : (x y : Bool) → (x || y) ≡ false → x ≡ false
or_no_left true y h = cc
or_no_left false y h = refl

pub or_no_right : (x y : Bool) → (x || y) ≡ false → y ≡ false
or_no_right true y h = cc
or_no_right false y h = h

-- what is in a list with one path more or less
in_place : (p : TypePath) (n : List TypePath) → In p (listed (place p n))
in_place p [] = first_in
in_place p (q ∷ n) = elim (is_lt (path_order p q)) as (λ v. In p (listed (cond v (p ∷ q ∷ n) (q ∷ place p n)))) [
  | true ↦ first_in
  | false ↦ later_in (in_place p n)
]

in_placed : (p : TypePath) (n : List TypePath) (r : TypePath) → In r (listed n) → In r (listed (place p n))
in_placed p [] r i = elim i [ ]
in_placed p (q ∷ n) r i = elim (is_lt (path_order p q)) as (λ v. In r (listed (cond v (p ∷ q ∷ n) (q ∷ place p n)))) [
  | true ↦ later_in i
  | false ↦ past r i (λ x j. in_placed p n x j)
]
  where
    past : (r : TypePath) → In r (more q (listed n)) → ((x : TypePath) → In x (listed n) → In x (listed (place p n))) → In r (more q (listed (place p n)))
    past _ first_in f = first_in
    past r (later_in j) f = later_in (f r j)

pub placed_in : (p : TypePath) (n : List TypePath) (r : TypePath) → In r (listed (place p n)) → (r ≡ p) ⊎ In r (listed n)
placed_in p [] r i = only r i
  where
    only : (r : TypePath) → In r (more p none) → (r ≡ p) ⊎ In r none
    only _ first_in = inl refl
    only r (later_in j) = elim j [ ]
placed_in p (q ∷ n) r i = step (is_lt (path_order p q)) i (λ x j. placed_in p n x j)
  where
    at_head : (r : TypePath) → In r (more p (more q (listed n))) → (r ≡ p) ⊎ In r (more q (listed n))
    at_head _ first_in = inl refl
    at_head r (later_in j) = inr j

    past :
        (r : TypePath) → In r (more q (listed (place p n)))
        → ((x : TypePath) → In x (listed (place p n)) → (x ≡ p) ⊎ In x (listed n))
        → (r ≡ p) ⊎ In r (more q (listed n))
    past _ first_in f = inr first_in
    past r (later_in j) f = elim (f r j) [ inl e ↦ inl e | inr k ↦ inr (later_in k) ]

    step :
        (v : Bool) → In r (listed (cond v (p ∷ q ∷ n) (q ∷ place p n)))
        → ((x : TypePath) → In x (listed (place p n)) → (x ≡ p) ⊎ In x (listed n))
        → (r ≡ p) ⊎ In r (more q (listed n))
    step true j f = at_head r j
    step false j f = past r j f

pub filtered_in : (f : TypePath → Bool) (n : List TypePath) (r : TypePath) → In r (listed (filter f n)) → In r (listed n)
filtered_in f [] r i = i
filtered_in f (q ∷ n) r i = step (f q) i (λ x j. filtered_in f n x j)
  where
    past : (r : TypePath) → In r (more q (listed (filter f n))) → ((x : TypePath) → In x (listed (filter f n)) → In x (listed n)) → In r (more q (listed n))
    past _ first_in g = first_in
    past r (later_in j) g = later_in (g r j)

    step :
        (v : Bool) → In r (listed (cond v (q ∷ filter f n) (filter f n)))
        → ((x : TypePath) → In x (listed (filter f n)) → In x (listed n)) → In r (more q (listed n))
    step true j g = past r j g
    step false j g = later_in (g r j)

pub in_filtered : (f : TypePath → Bool) (n : List TypePath) (r : TypePath) → In r (listed n) → f r ≡ true → In r (listed (filter f n))
in_filtered f [] r i e = i
in_filtered f (q ∷ n) _ first_in e = rw e first_in
in_filtered f (q ∷ n) r (later_in i) e = elim (f q) as (λ v. In r (listed (cond v (q ∷ filter f n) (filter f n)))) [
  | true ↦ later_in (in_filtered f n r i e)
  | false ↦ in_filtered f n r i e
]

-- canonical lists are sorted
module _ (below : ℕ → ℕ → Type 0) (variance : ℕ → Variance) where
  leads_of : (p : TypePath) (n : Paths) → LeadsAntichain below variance p n → Leads p n
  leads_of p none h = tt
  leads_of p (more q n) h = (h.0, leads_of p n h.3)

  mutual
    sorted_path : (p : TypePath) → IsCanonicalPath below variance p → IsSortedPath p
    sorted_path (atom c) h = tt
    sorted_path (inside c p) h = sorted_path p h
    sorted_path unit h = tt
    sorted_path (left p) h = sorted_path p h
    sorted_path (right p) h = sorted_path p h
    sorted_path (function n p) h = (canonical_sorted n h.0, sorted_path p h.1)
    sorted_path (sealed c n) h = canonical_sorted n h

    pub canonical_sorted : (n : Paths) → IsCanonical below variance n → IsSorted n
    canonical_sorted none h = tt
    canonical_sorted (more p n) h = (sorted_path p h.0, leads_of p n h.1, canonical_sorted n h.2)

  leads_filter :
      (f : TypePath → Bool) (p : TypePath) (n : List TypePath) → LeadsAntichain below variance p (listed n)
      → LeadsAntichain below variance p (listed (filter f n))
  leads_filter f p [] h = tt
  leads_filter f p (q ∷ n) h = elim (f q) as (λ v. LeadsAntichain below variance p (listed (cond v (q ∷ filter f n) (filter f n)))) [
    | true ↦ (h.0, h.1, h.2, leads_filter f p n h.3)
    | false ↦ leads_filter f p n h.3
  ]

  pub canonical_filter : (f : TypePath → Bool) (n : List TypePath) → IsCanonical below variance (listed n) → IsCanonical below variance (listed (filter f n))
  canonical_filter f [] h = tt
  canonical_filter f (q ∷ n) h = elim (f q) as (λ v. IsCanonical below variance (listed (cond v (q ∷ filter f n) (filter f n)))) [
    | true ↦ (h.0, leads_filter f q n h.1, canonical_filter f n h.2)
    | false ↦ canonical_filter f n h.2
  ]

  suits_filter : (f : TypePath → Bool) (n : List TypePath) → SuitsAll variance (listed n) → SuitsAll variance (listed (filter f n))
  suits_filter f [] h = tt
  suits_filter f (q ∷ n) h = elim (f q) as (λ v. SuitsAll variance (listed (cond v (q ∷ filter f n) (filter f n)))) [
    | true ↦ (h.0, suits_filter f n h.1)
    | false ↦ suits_filter f n h.1
  ]

  suits_place : (p : TypePath) (n : List TypePath) → Suits variance p → SuitsAll variance (listed n) → SuitsAll variance (listed (place p n))
  suits_place p [] s h = (s, tt)
  suits_place p (q ∷ n) s h = elim (is_lt (path_order p q)) as (λ v. SuitsAll variance (listed (cond v (p ∷ q ∷ n) (q ∷ place p n)))) [
    | true ↦ (s, h)
    | false ↦ (h.0, suits_place p n s h.1)
  ]

  -- the path is neither below nor above any of the list
  abbrev pub IsClear : TypePath → List TypePath → Type 0
  IsClear p [] = Unit {0}
  IsClear p (q ∷ n) = (PathLe below variance p q → ⊥) × (PathLe below variance q p → ⊥) × IsClear p n

  leads_on :
      (p q : TypePath) (n : List TypePath) → PathBefore p q → LeadsAntichain below variance q (listed n) → IsClear p n
      → LeadsAntichain below variance p (listed n)
  leads_on p q [] b h k = tt
  leads_on p q (r ∷ n) b h k = (before_trans p q r b h.0, k.0, k.1, leads_on p q n b h.3 k.2)

  leads_place :
      (q p : TypePath) (n : List TypePath) → PathBefore q p → (PathLe below variance q p → ⊥)
      → (PathLe below variance p q → ⊥) → LeadsAntichain below variance q (listed n)
      → LeadsAntichain below variance q (listed (place p n))
  leads_place q p [] b f g h = (b, f, g, tt)
  leads_place q p (r ∷ n) b f g h = elim (is_lt (path_order p r)) as (λ v. LeadsAntichain below variance q (listed (cond v (p ∷ r ∷ n) (r ∷ place p n)))) [
    | true ↦ (b, f, g, h)
    | false ↦ (h.0, h.1, h.2, leads_place q p n b f g h.3)
  ]

  canonical_place :
      (p : TypePath) (n : List TypePath) → PathLe below variance p p → IsCanonicalPath below variance p
      → IsCanonical below variance (listed n) → IsClear p n → IsCanonical below variance (listed (place p n))
  canonical_place p [] self d h k = (d, tt, tt)
  canonical_place p (q ∷ n) self d h k = step (path_order p q) refl (canonical_place p n self d h.2 k.2)
    where
      step :
          (o : Ordering) → path_order p q ≡ o → IsCanonical below variance (listed (place p n))
          → IsCanonical below variance (listed (cond (is_lt o) (p ∷ q ∷ n) (q ∷ place p n)))
      step Less e c = let b = less_before p q e in (d, (b, k.0, k.1, leads_on p q n b h.1 k.2), h)
      step Equal e c = absurd (k.0 (subst (λ x. PathLe below variance p x) (order_same p q e) self))
      step Greater e c = (h.0, leads_place q p n ((path_order-greater p q).0 e) k.1 k.0 h.1, c)

module _ (test : ℕ → ℕ → Bool) (variance : ℕ → Variance) (reflexive : (c : ℕ) → Below test c c) (transitive : (c d e : ℕ) → Below test c d → Below test d e → Below test c e) (one_variance : (c d : ℕ) → Below test c d → variance c ≡ variance d) where
  abbrev Kept : TypePath → List TypePath → List TypePath
  Kept p n = without_above test variance p n

  not_le : (p q : TypePath) → path_below test variance p q ≡ false → PathLe (Below test) variance p q → ⊥
  not_le p q e h = false≢true (sym e ∙ le_tested test variance h)

  -- if no path of the list is below the path, those that aren't above it are clear of it
  clear_kept : (p : TypePath) (n : List TypePath) → some_below test variance (listed n) p ≡ false → IsClear (Below test) variance p (Kept p n)
  clear_kept p [] e = tt
  clear_kept p (q ∷ n) e = step (path_below test variance p q) refl (or_no_left _ _ e) (clear_kept p n (or_no_right (path_below test variance q p) _ e))
    where
      step :
          (v : Bool) → path_below test variance p q ≡ v → path_below test variance q p ≡ false
          → IsClear (Below test) variance p (Kept p n)
          → IsClear (Below test) variance p (cond (not v) (q ∷ Kept p n) (Kept p n))
      step true f g h = h
      step false f g h = (not_le p q f, not_le q p g, h)

  pub insertion_canonical :
      (p : TypePath) (n : List TypePath) → Suits variance p → IsCanonicalPath (Below test) variance p
      → IsCanonical (Below test) variance (listed n) → some_below test variance (listed n) p ≡ false
      → IsCanonical (Below test) variance (listed (place p (Kept p n)))
  insertion_canonical p n s d h e =
      canonical_place (Below test) variance p (Kept p n) (le_refl (Below test) variance reflexive transitive p s) d (canonical_filter (Below test) variance (λ q. not (path_below test variance p q)) n h) (clear_kept p n e)

  -- the list with the path behind it
  abbrev Together : TypePath → List TypePath → Paths
  Together p n = append (listed n) (more p none)

  in_together : (p : TypePath) (n : List TypePath) (q : TypePath) → In q (Together p n) → (q ≡ p) ⊎ In q (listed n)
  in_together p n q i = elim (in_append q (listed n) (more p none) i) [ inl a ↦ inr a | inr b ↦ only q b ]
    where
      only : (q : TypePath) → In q (more p none) → (q ≡ p) ⊎ In q (listed n)
      only _ first_in = inl refl
      only q (later_in j) = elim j [ ]

  inserted_over :
      (p : TypePath) (n : List TypePath) → Suits variance p → SuitsAll variance (listed n)
      → PathsLe (Below test) variance (listed (place p (Kept p n))) (Together p n)
  inserted_over p n s h = covers_all (Below test) variance reflexive transitive (listed (place p (Kept p n))) (Together p n) (λ q i. elim (in_together p n q i) [
    | inl e ↦ (p, in_place p (Kept p n), subst (λ x. PathLe (Below test) variance p x) (sym e) (le_refl (Below test) variance reflexive transitive p s))
    | inr j ↦ either q j (path_below test variance p q) refl
  ])
    where
      either :
          (q : TypePath) → In q (listed n) → (v : Bool) → path_below test variance p q ≡ v
          → Some (Below test) variance reflexive transitive (listed (place p (Kept p n))) q
      either q j true e = (p, in_place p (Kept p n), tested_le test variance reflexive transitive one_variance p q s (suits_in (Below test) variance reflexive transitive (listed n) q h j) e)
      either q j false e = (q, in_placed p (Kept p n) q (in_filtered (λ r. not (path_below test variance p r)) n q j (ap not e)), le_refl (Below test) variance reflexive transitive q (suits_in (Below test) variance reflexive transitive (listed n) q h j))

  over_inserted :
      (p : TypePath) (n : List TypePath) → Suits variance p → SuitsAll variance (listed n)
      → PathsLe (Below test) variance (Together p n) (listed (place p (Kept p n)))
  over_inserted p n s h = covers_subset (Below test) variance reflexive transitive (Together p n) (listed (place p (Kept p n)))
      (suits_place (Below test) variance p (Kept p n) s (suits_filter (Below test) variance (λ q. not (path_below test variance p q)) n h)) (λ q i. elim (placed_in p (Kept p n) q i) [
        | inl e ↦ subst (λ x. In x (Together p n)) (sym e) (in_append_right p (listed n) (more p none) first_in)
        | inr j ↦ in_append_left q (listed n) (more p none) (filtered_in (λ r. not (path_below test variance p r)) n q j)
      ])

  -- the paths of the intersection of a list and a path
  together_paths :
      (p : TypePath) (n : List TypePath) → Suits variance p → SuitsAll variance (listed n)
      → paths_of variance (meet (type_of_paths (listed n)) (type_of_path p)) ≡ Together p n
  together_paths p n s h = λ i. append (paths_back (listed n) variance h i) (path_back p variance s i)

  pub inserted_form :
      (p : TypePath) (n : List TypePath) → Suits variance p → IsCanonicalPath (Below test) variance p
      → IsNormal (Below test) variance (listed n) → some_below test variance (listed n) p ≡ false
      → IsNormalForm (Below test) variance (meet (type_of_paths (listed n)) (type_of_path p)) (listed (place p (Kept p n)))
  inserted_form p n s d h e =
      let m = listed (place p (Kept p n)) in
      let t = sym (together_paths p n s h.suits) in
      record {
        normal = record {
          suits = suits_place (Below test) variance p (Kept p n) s (suits_filter (Below test) variance (λ q. not (path_below test variance p q)) n h.suits);
          canonical = insertion_canonical p n s d h.canonical e;
        };
        lower = subst (λ l. PathsLe (Below test) variance m l) t (inserted_over p n s h.suits);
        upper = subst (λ l. PathsLe (Below test) variance l m) t (over_inserted p n s h.suits);
      }

  -- if a path of the list is below the path, the list stays
  pub kept_form :
      (p : TypePath) (n : List TypePath) → Suits variance p → IsNormal (Below test) variance (listed n)
      → some_below test variance (listed n) p ≡ true
      → IsNormalForm (Below test) variance (meet (type_of_paths (listed n)) (type_of_path p)) (listed n)
  kept_form p n s h e =
      let m = listed n in
      let t = sym (together_paths p n s h.suits) in
      let a = tested_some test variance reflexive transitive one_variance m p h.suits s e in
      record {
        normal = h;
        lower = subst (λ l. PathsLe (Below test) variance m l) t (covers_all (Below test) variance reflexive transitive m (Together p n) (λ q i. elim (in_together p n q i) [
          | inl f ↦ subst (λ x. Some (Below test) variance reflexive transitive m x) (sym f) (covered (Below test) variance reflexive transitive m (more p none) (each a empty) p first_in)
          | inr j ↦ (q, j, le_refl (Below test) variance reflexive transitive q (suits_in (Below test) variance reflexive transitive m q h.suits j))
        ]));
        upper = subst (λ l. PathsLe (Below test) variance l m) t (covers_subset (Below test) variance reflexive transitive (Together p n) m h.suits (λ q i. in_append_left q m (more p none) i));
      }
