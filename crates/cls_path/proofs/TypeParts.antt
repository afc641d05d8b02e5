-- The paths of a type from those of its parts.
use Rattle.std.proofs.Common.{◌≡◌, subst, ℕ, ◌⊎◌, inl, inr}
use Rattle.cls_base.specs.Types as types
use Rattle.cls_base.specs.Types.{ClosedType, constructor, product, arrow, meet}
use Rattle.cls_base.specs.Taxonomies.{Variance, covariant, contravariant, invariant}
use Rattle.cls_path.specs.Paths.{TypePath, atom, inside, unit, left, right, function, sealed, Paths, none, more, functions, contravariants, invariants, here, PathsLe, empty, each, type_of_paths, append, map_paths, or_one, constructor_paths, paths_of}
use Rattle.cls_path.specs.NormalForms.{IsCanonicalPath, EachCanonical, IsNormalForm}
use Rattle.cls_path.specs.PathLists.{ArePathsOf}
use Rattle.cls_path.proofs.Transitivity.{covers_trans}
use Rattle.cls_path.proofs.Completeness.{in_append, covered, covers_all, covers_map_both, covers_covariant, covers_products, suits_append, suits_map, suits_or_one, some_left, some_right, at_variance}
use Rattle.cls_path.proofs.RoundTrip.{paths_back}

module _ (below : ℕ → ℕ → Type 0) (variance : ℕ → Variance) (reflexive : (c : ℕ) → below c c) (transitive : (c d e : ℕ) → below c d → below d e → below c e) where
  abbrev Of : ClosedType → Paths → Type 0
  Of t n = ArePathsOf below variance t n

  canonical_append : (n m : Paths) → EachCanonical below variance n → EachCanonical below variance m → EachCanonical below variance (append n m)
  canonical_append none m s t = t
  canonical_append (more p n) m s t = (s.0, canonical_append n m s.1 t)

  canonical_map :
      (f : TypePath → TypePath)
      → ((p : TypePath) → IsCanonicalPath below variance p → IsCanonicalPath below variance (f p)) → (n : Paths)
      → EachCanonical below variance n → EachCanonical below variance (map_paths f n)
  canonical_map f g none s = tt
  canonical_map f g (more p n) s = (g p s.0, canonical_map f g n s.1)

  canonical_or_one : (p : TypePath) (n : Paths) → IsCanonicalPath below variance p → EachCanonical below variance n → EachCanonical below variance (or_one p n)
  canonical_or_one p none s t = (s, tt)
  canonical_or_one p (more q n) s t = t

  -- the normal form of the intersection of a type's paths is that of the type
  pub form_of_paths :
      (t : ClosedType) (n m : Paths) → ArePathsOf below variance t n → IsNormalForm below variance (type_of_paths n) m
      → IsNormalForm below variance t m
  form_of_paths t n m h k =
      let e = paths_back n variance h.suits in
      record {
        normal = k.normal;
        lower = covers_trans below variance reflexive transitive m n (paths_of variance t) (subst (λ l. PathsLe below variance m l) e k.lower) h.lower;
        upper = covers_trans below variance reflexive transitive (paths_of variance t) n m h.upper (subst (λ l. PathsLe below variance l m) e k.upper);
      }

  pub omega_paths : ArePathsOf below variance types.omega none
  omega_paths = record { suits = tt; canonical = tt; lower = empty; upper = empty }

  pub name_paths :
      (c : ℕ) (s : ClosedType) (n : Paths) → variance c ≡ covariant → ArePathsOf below variance s n
      → ArePathsOf below variance (constructor c s) (or_one (atom c) (map_paths (inside c) n))
  name_paths c s n v h =
      let m = or_one (atom c) (map_paths (inside c) n) in
      record {
        suits = suits_or_one below variance reflexive transitive (atom c) (map_paths (inside c) n) v (suits_map below variance reflexive transitive (inside c) (λ p k. (v, k)) n h.suits);
        canonical = canonical_or_one (atom c) (map_paths (inside c) n) tt (canonical_map (inside c) (λ p k. k) n h.canonical);
        lower = at_variance below variance reflexive transitive (λ x. PathsLe below variance m (constructor_paths x c (paths_of variance s))) (variance c) covariant v
            (covers_covariant below variance reflexive transitive c c n (paths_of variance s) (reflexive c) h.lower);
        upper = at_variance below variance reflexive transitive (λ x. PathsLe below variance (constructor_paths x c (paths_of variance s)) m) (variance c) covariant v
            (covers_covariant below variance reflexive transitive c c (paths_of variance s) n (reflexive c) h.upper);
      }

  pub sealed_paths :
      (c : ℕ) (s : ClosedType) (n : Paths) → (variance c ≡ contravariant) ⊎ (variance c ≡ invariant)
      → IsNormalForm below variance s n → ArePathsOf below variance (constructor c s) (more (sealed c n) none)
  sealed_paths c s n v h = record {
    suits = ((v, h.normal.suits), tt);
    canonical = (h.normal.canonical, tt);
    lower = elim v [
      | inl e ↦ at_variance below variance reflexive transitive (λ x. PathsLe below variance (more (sealed c n) none) (constructor_paths x c (paths_of variance s))) (variance c) contravariant e
          (each (here (contravariants e e (reflexive c) h.upper)) empty)
      | inr e ↦ at_variance below variance reflexive transitive (λ x. PathsLe below variance (more (sealed c n) none) (constructor_paths x c (paths_of variance s))) (variance c) invariant e
          (each (here (invariants e e (reflexive c) h.lower h.upper)) empty)
    ];
    upper = elim v [
      | inl e ↦ at_variance below variance reflexive transitive (λ x. PathsLe below variance (constructor_paths x c (paths_of variance s)) (more (sealed c n) none)) (variance c) contravariant e
          (each (here (contravariants e e (reflexive c) h.lower)) empty)
      | inr e ↦ at_variance below variance reflexive transitive (λ x. PathsLe below variance (constructor_paths x c (paths_of variance s)) (more (sealed c n) none)) (variance c) invariant e
          (each (here (invariants e e (reflexive c) h.upper h.lower)) empty)
    ];
  }

  pub product_paths :
      (s t : ClosedType) (n m : Paths) → ArePathsOf below variance s n → ArePathsOf below variance t m
      → ArePathsOf below variance (product s t) (or_one unit (append (map_paths left n) (map_paths right m)))
  product_paths s t n m h k = record {
    suits = suits_or_one below variance reflexive transitive unit (append (map_paths left n) (map_paths right m)) tt
        (suits_append below variance reflexive transitive (map_paths left n) (map_paths right m) (suits_map below variance reflexive transitive left (λ p u. u) n h.suits) (suits_map below variance reflexive transitive right (λ p u. u) m k.suits));
    canonical = canonical_or_one unit (append (map_paths left n) (map_paths right m)) tt
        (canonical_append (map_paths left n) (map_paths right m) (canonical_map left (λ p u. u) n h.canonical) (canonical_map right (λ p u. u) m k.canonical));
    lower = covers_products below variance reflexive transitive n m (paths_of variance s) (paths_of variance t) h.lower k.lower;
    upper = covers_products below variance reflexive transitive (paths_of variance s) (paths_of variance t) n m h.upper k.upper;
  }

  pub arrow_paths :
      (s t : ClosedType) (n m : Paths) → IsNormalForm below variance s n → ArePathsOf below variance t m
      → ArePathsOf below variance (arrow s t) (map_paths (function n) m)
  arrow_paths s t n m h k = record {
    suits = suits_map below variance reflexive transitive (function n) (λ p u. (h.normal.suits, u)) m k.suits;
    canonical = canonical_map (function n) (λ p u. (h.normal.canonical, u)) m k.canonical;
    lower = covers_map_both below variance reflexive transitive (function n) (function (paths_of variance s)) (λ p q l. functions h.upper l) m (paths_of variance t) k.lower;
    upper = covers_map_both below variance reflexive transitive (function (paths_of variance s)) (function n) (λ p q l. functions h.lower l) (paths_of variance t) m k.upper;
  }

  both : (n m a b : Paths) → PathsLe below variance n a → PathsLe below variance m b → PathsLe below variance (append n m) (append a b)
  both n m a b h k = covers_all below variance reflexive transitive (append n m) (append a b) (λ q i. elim (in_append q a b i) [
    | inl j ↦ some_left below variance reflexive transitive q n m (covered below variance reflexive transitive n a h q j)
    | inr j ↦ some_right below variance reflexive transitive q n m (covered below variance reflexive transitive m b k q j)
  ])

  pub meet_paths :
      (s t : ClosedType) (n m : Paths) → ArePathsOf below variance s n → ArePathsOf below variance t m
      → ArePathsOf below variance (meet s t) (append n m)
  meet_paths s t n m h k = record {
    suits = suits_append below variance reflexive transitive n m h.suits k.suits;
    canonical = canonical_append n m h.canonical k.canonical;
    lower = both n m (paths_of variance s) (paths_of variance t) h.lower k.lower;
    upper = both (paths_of variance s) (paths_of variance t) n m h.upper k.upper;
  }
