-- Terms that have types by a library.
use Rattle.std.proofs.Common.{ℕ, zero, suc, ◌≡◌, ◌<◌, refl, sym, subst, ap, inl, inr, List, [], ◌∷◌, length, get_or, Option, None, Some, arith}
use Rattle.std.specs.Prelude.{Contains, slice_get}
use Rattle.std.specs.List.{AllZip}
use Rattle.cls_base.proofs.Lists.{Contains-nil, Contains-here, Contains-later, Contains-cases}
use Rattle.cls_base.specs.Types as types
use Rattle.cls_base.specs.Types.{ClosedType}
use Rattle.cls_base.specs.Subtyping.{transitivity, to_omega, omega_arrow, meet_left, meet_right}
use Rattle.cls_base.specs.Terms.{Applicative, component, apply, head_of}
use Rattle.cls_base.specs.Spines.{spine}
use Rattle.cls_base.specs.Typing.{by_instance, by_application, by_intersection, by_subsumption}
use Rattle.cls_path.specs.Paths.{TypePath, function, Paths, none, more, each, empty, InPaths, first_in, later_in, paths_of, type_of_path, type_of_paths, meets, Suits}
use Rattle.cls_path.proofs.Completeness.{some_above, le_refl, suits_in, suits_paths}
use Rattle.cls_path.proofs.Equivalence.{from_paths, paths_sound}
use Rattle.cls_path.proofs.RoundTrip.{path_back}
use Rattle.cls_library.specs.Arrows.{MultiArrow, with_source, split, onto, arrows_of}
use Rattle.cls_library.specs.Libraries.{Library, below_in, variances_in}
use Rattle.cls_library.specs.Reaching.{PathsLeIn}
use Rattle.cls_library.specs.Typing.{HasTypeIn}
use Rattle.cls_check.specs.Arguments.{no_arrow, source_type, argument_type}
use Rattle.cls_check.specs.Checking.{IsSubtype}
use Rattle.cls_check.proofs.Order.{reflexive, transitive}

module _ (l : Library) where
  abbrev Has : Applicative → ClosedType → Type 0
  Has e t = HasTypeIn l e t

  -- a type is below each of its paths
  pub below_path : (t : ClosedType) (q : TypePath) → InPaths (paths_of (variances_in l.taxonomy) t) q → Suits (variances_in l.taxonomy) q × IsSubtype l t (type_of_path q)
  below_path t q i =
      let s = suits_in (below_in l.taxonomy) (variances_in l.taxonomy) (reflexive l) (transitive l) (paths_of (variances_in l.taxonomy) t) q (suits_paths (below_in l.taxonomy) (variances_in l.taxonomy) (reflexive l) (transitive l) t) i in
      let le : PathsLeIn l (paths_of (variances_in l.taxonomy) t) (more q none)
      = each (some_above (below_in l.taxonomy) (variances_in l.taxonomy) (reflexive l) (transitive l) (paths_of (variances_in l.taxonomy) t) q q i (le_refl (below_in l.taxonomy) (variances_in l.taxonomy) (reflexive l) (transitive l) q s)) empty in (
        s,
        paths_sound (below_in l.taxonomy) (variances_in l.taxonomy) (reflexive l) (transitive l) t (type_of_path q)
            (subst (λ (n : Paths). PathsLeIn l (paths_of (variances_in l.taxonomy) t) n) (sym (path_back q (variances_in l.taxonomy) s)) le),
      )

  has_meets : (e : Applicative) (s : ClosedType) (n : Paths) → Has e s → ((q : TypePath) → InPaths n q → Has e (type_of_path q)) → Has e (meets s n)
  has_meets e s none h f = h
  has_meets e s (more p n) h f = has_meets e _ n (by_intersection h (f p first_in)) (λ q i. f q (later_in i))

  has_paths : (e : Applicative) (n : Paths) → Has e types.omega → ((q : TypePath) → InPaths n q → Has e (type_of_path q)) → Has e (type_of_paths n)
  has_paths e none h f = h
  has_paths e (more p n) h f = has_meets e (type_of_path p) n (f p first_in) (λ q i. f q (later_in i))

  -- what has each path of a type has the type
  pub has_type : (e : Applicative) (t : ClosedType) → Has e types.omega → ((q : TypePath) → InPaths (paths_of (variances_in l.taxonomy) t) q → Has e (type_of_path q)) → Has e t
  has_type e t h f = by_subsumption (has_paths e (paths_of (variances_in l.taxonomy) t) h f) (from_paths (below_in l.taxonomy) (variances_in l.taxonomy) (reflexive l) (transitive l) t)

  -- a declared component, applied to terms that have types, has omega
  pub omega_spine : (f : Applicative) (es : List Applicative) → Has f types.omega → ((e : Applicative) → Contains es e → Has e types.omega) → Has (spine f es) types.omega
  omega_spine f [] h k = h
  omega_spine f (e ∷ es) h k = omega_spine (apply f e) es (by_application (by_subsumption h omega_arrow) (k e (Contains-here e es))) (λ a c. k a (Contains-later a e es c))

  -- the component at the head of a term that has a type is declared
  declared_head : {e : Applicative} {t : ClosedType} → Has e t → head_of e < length l.components
  declared_head (by_instance h) = h.0
  declared_head (by_application h k) = declared_head h
  declared_head (by_intersection h k) = declared_head h
  declared_head (by_subsumption h k) = declared_head h

  head_spine : (f : Applicative) (es : List Applicative) → head_of (spine f es) ≡ head_of f
  head_spine f [] = refl
  head_spine f (e ∷ es) = head_spine (apply f e) es

  pub declared : (x : ℕ) (es : List Applicative) (t : ClosedType) → Has (spine (component x) es) t → x < length l.components
  declared x es t h = subst (λ k. k < length l.components) (head_spine (component x) es) (declared_head h)

  -- the parts of a term that has a type have types
  apply_parts : {f a : Applicative} {t : ClosedType} → Has (apply f a) t → Has f types.omega × Has a types.omega
  apply_parts (by_application h k) = (by_subsumption h to_omega, by_subsumption k to_omega)
  apply_parts (by_intersection h k) = apply_parts h
  apply_parts (by_subsumption h k) = apply_parts h

  function_has : (f : Applicative) (es : List Applicative) (t : ClosedType) → Has (spine f es) t → Has f types.omega
  function_has f [] t h = by_subsumption h to_omega
  function_has f (e ∷ es) t h = (apply_parts (function_has (apply f e) es t h)).0

  pub arguments_have : (f : Applicative) (es : List Applicative) (t : ClosedType) → Has (spine f es) t → (a : Applicative) → Contains es a → Has a types.omega
  arguments_have f [] t h a c = absurd (Contains-nil a c)
  arguments_have f (e ∷ es) t h a c = elim (Contains-cases e es a c) [
    | inl same ↦ subst (λ b. Has b types.omega) (sym same) (apply_parts (function_has (apply f e) es t h)).1
    | inr d ↦ arguments_have (apply f e) es t h a d
  ]

  -- the intersection of what arrows take is below what each takes
  pub argument_below : (arrows : List MultiArrow) (s : List ℕ) (k i : ℕ) → Contains s k → IsSubtype l (argument_type arrows s i) (source_type (get_or arrows k no_arrow) i)
  argument_below arrows [] k i c = absurd (Contains-nil k c)
  argument_below arrows (j ∷ s) k i c = elim (Contains-cases j s k c) [
    | inl e ↦ subst (λ m. IsSubtype l (argument_type arrows (j ∷ s) i) (source_type (get_or arrows m no_arrow) i)) (sym e) meet_left
    | inr d ↦ transitivity meet_right (argument_below arrows s k i d)
  ]

  -- what has what each arrow takes has their intersection
  pub has_argument : (arrows : List MultiArrow) (s : List ℕ) (i : ℕ) (e : Applicative) → Has e types.omega → ((k : ℕ) → Contains s k → Has e (source_type (get_or arrows k no_arrow) i)) → Has e (argument_type arrows s i)
  has_argument arrows [] i e h f = h
  has_argument arrows (k ∷ s) i e h f = by_intersection (f k (Contains-here k s)) (has_argument arrows s i e h (λ j c. f j (Contains-later j k s c)))

-- arrows have as many sources as they take arguments
abbrev MayCount : ℕ → Option MultiArrow → Type 0
MayCount n None = Unit {0}
MayCount n (Some a) = length a.sources ≡ n

count_source : (n : ℕ) (m : Paths) (a : Option MultiArrow) → MayCount n a → MayCount (suc n) (with_source m a)
count_source n m None h = tt
count_source n m (Some a) h = ap suc h

count_split : (n : ℕ) (p : TypePath) → MayCount n (split n p)
count_split zero p = refl
count_split (suc n) (function m p) = count_source n m (split n p) (count_split n p)
count_split (suc n) _ = tt

count_onto : (n : ℕ) (o : Option MultiArrow) (rest : List MultiArrow) → MayCount n o → ((i : ℕ) (a : MultiArrow) → slice_get rest i ≡ Some a → length a.sources ≡ n) → (i : ℕ) (a : MultiArrow) → slice_get (onto o rest) i ≡ Some a → length a.sources ≡ n
count_onto n None rest h k i a e = k i a e
count_onto n (Some b) rest h k zero a e = subst (λ (c : MultiArrow). length c.sources ≡ n) (let s : b ≡ a = cc in s) h
count_onto n (Some b) rest h k (suc i) a e = k i a e

pub source_count : (n : ℕ) (paths : Paths) (i : ℕ) (a : MultiArrow) → slice_get (arrows_of n paths) i ≡ Some a → length a.sources ≡ n
source_count n none i a e = absurd cc
source_count n (more p paths) i a e = count_onto n (split n p) (arrows_of n paths) (count_split n p) (source_count n paths) i a e

-- two lists, place by place
pub zip_from : {A B : Type 0} (R : A → B → Type 0) (xs : List A) (ys : List B) (d : A) (e : B) → length xs ≡ length ys → ((i : ℕ) → i < length xs → R (get_or xs i d) (get_or ys i e)) → AllZip R xs ys
zip_from R [] [] d e l f = tt
zip_from R [] (y ∷ ys) d e l f = let m : 0 ≡ suc (length ys) = l in absurd (omega arith)
zip_from R (x ∷ xs) [] d e l f = let m : suc (length xs) ≡ 0 = l in absurd (omega arith)
zip_from R (x ∷ xs) (y ∷ ys) d e l f = (f 0 (omega arith), zip_from R xs ys d e (let m : suc (length xs) ≡ suc (length ys) = l in omega arith) (λ i k. f (suc i) (omega arith)))
