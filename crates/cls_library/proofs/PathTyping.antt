-- A term has a type by derivations exactly where it has each path of the type by applications alone.
use Rattle.std.proofs.Common.{ℕ, ◌≡◌, ◌<◌, ◌↔◌, refl, sym, ◌∙◌, subst, ap, inl, inr}
use Rattle.cls_base.specs.Types.{ClosedType, omega, arrow, meet}
use Rattle.cls_base.specs.Taxonomies.{Variance}
use Rattle.cls_base.specs.Subtyping.{to_omega, omega_arrow}
use Rattle.cls_base.specs.Terms.{Applicative, component, apply, IsTermOver}
use Rattle.cls_base.specs.Typing.{HasType, by_instance, by_application, by_intersection, by_subsumption}
use Rattle.cls_path.specs.Paths.{TypePath, function, Paths, none, more, PathLe, functions, PathsLe, paths_of, InPaths, first_in, later_in, type_of_path, type_of_paths, meets, Suits, SuitsAll}
use Rattle.cls_path.proofs.Transitivity.{le_trans}
use Rattle.cls_path.proofs.Completeness.{in_append, in_map, covered, some_above, complete, le_refl, suits_in}
use Rattle.cls_path.proofs.Soundness.{le_sound, above_sound}
use Rattle.cls_path.proofs.RoundTrip.{paths_back}

module _ (below : ℕ → ℕ → Type 0) (variance : ℕ → Variance) (reflexive : (c : ℕ) → below c c) (transitive : (c d e : ℕ) → below c d → below d e → below c e) (count : ℕ) (paths : ℕ → Paths) (suited : (x : ℕ) → SuitsAll variance (paths x)) where
  -- typing by one type for each component
  abbrev pub Has : Applicative → ClosedType → Type 0
  Has e t = HasType below variance (λ x s. (x < count) × (s ≡ type_of_paths (paths x))) e t

  -- the paths that a term has: those of its component, and what is left of them after application
  abbrev pub HasPath : Applicative → TypePath → Type 0
  HasPath (component x) p = InPaths (paths x) p
  HasPath (apply f a) p = (n : Paths) × HasPath f (function n p) × ((q : TypePath) → InPaths n q → (r : TypePath) × HasPath a r × PathLe below variance r q)

  -- some path of the term is below this one
  abbrev pub Reaches : Applicative → TypePath → Type 0
  Reaches e q = (p : TypePath) × HasPath e p × PathLe below variance p q

  abbrev pub HasAll : Applicative → Paths → Type 0
  HasAll e n = (q : TypePath) → InPaths n q → Reaches e q

  pub reaches_up : (e : Applicative) (q r : TypePath) → Reaches e q → PathLe below variance q r → Reaches e r
  reaches_up e q r h k = (h.0, h.1, le_trans below variance reflexive transitive q h.0 r h.2 k)

  -- what has a list has each list above it
  pub all_up : (e : Applicative) (n m : Paths) → HasAll e n → PathsLe below variance n m → HasAll e m
  all_up e n m h k = λ q i. let r = covered below variance reflexive transitive n m k q i in reaches_up e r.0 q (h r.0 r.1) r.2

  pub suits_path : (e : Applicative) (p : TypePath) → HasPath e p → Suits variance p
  suits_path (component x) p h = suits_in below variance reflexive transitive (paths x) p (suited x) h
  suits_path (apply f a) p h = (suits_path f (function h.0 p) h.1).1

  function_le : (p : TypePath) (m : Paths) (q : TypePath) → PathLe below variance p (function m q) → (n : Paths) × (r : TypePath) × (p ≡ function n r) × PathsLe below variance m n × PathLe below variance r q
  function_le p m q (functions {n = n} {p = r} c h) = (n, r, refl, c, h)

  apply_step : (f a : Applicative) (m : Paths) (q : TypePath) → Reaches f (function m q) → HasAll a m → Reaches (apply f a) q
  apply_step f a m q h k =
      let s = function_le h.0 m q h.2 in
      (s.1, (s.0, subst (HasPath f) s.2 h.1, (λ x i. let c = covered below variance reflexive transitive m s.0 s.3 x i in reaches_up a c.0 x (k c.0 c.1) c.2)), s.4)

  apply_reaches : (f a : Applicative) (s t : ClosedType) → HasAll f (paths_of variance (arrow s t)) → HasAll a (paths_of variance s) → HasAll (apply f a) (paths_of variance t)
  apply_reaches f a s t h k q i = apply_step f a (paths_of variance s) q (h (function (paths_of variance s) q) (in_map (function (paths_of variance s)) q (paths_of variance t) i)) k

  instance_reaches : (x : ℕ) (s : ClosedType) → s ≡ type_of_paths (paths x) → HasAll (component x) (paths_of variance s)
  instance_reaches x s e q i = let j = subst (λ n. InPaths n q) (ap (paths_of variance) e ∙ paths_back (paths x) variance (suited x)) i in (q, j, le_refl below variance reflexive transitive q (suits_in below variance reflexive transitive (paths x) q (suited x) j))

  pub typed_reaches : {e : Applicative} {t : ClosedType} → Has e t → HasAll e (paths_of variance t)
  typed_reaches (by_instance {x = x} {s = s} h) q i = instance_reaches x s h.1 q i
  typed_reaches (by_application {f = f} {a = a} {s = s} {t = t} h k) q i = apply_reaches f a s t (λ r j. typed_reaches h r j) (λ r j. typed_reaches k r j) q i
  typed_reaches (by_intersection {s = s} {t = t} h k) q i = elim (in_append q (paths_of variance s) (paths_of variance t) i) [ inl j ↦ typed_reaches h q j | inr j ↦ typed_reaches k q j ]
  typed_reaches (by_subsumption {e = e} {s = s} {t = t} h k) q i = let r = covered below variance reflexive transitive (paths_of variance s) (paths_of variance t) (complete below variance reflexive transitive k) q i in reaches_up e r.0 q (typed_reaches h r.0 r.1) r.2

  pub typed_over : {e : Applicative} {t : ClosedType} → Has e t → IsTermOver count e
  typed_over (by_instance h) = h.0
  typed_over (by_application h k) = (typed_over h, typed_over k)
  typed_over (by_intersection h k) = typed_over h
  typed_over (by_subsumption h k) = typed_over h

  -- each declared term has omega
  typed_omega : (e : Applicative) → IsTermOver count e → Has e omega
  typed_omega (component x) h = by_subsumption (by_instance (h, refl)) to_omega
  typed_omega (apply f a) h = by_application (by_subsumption (typed_omega f h.0) omega_arrow) (typed_omega a h.1)

  typed_meets : (e : Applicative) (s : ClosedType) (n : Paths) → Has e s → ((q : TypePath) → InPaths n q → Has e (type_of_path q)) → Has e (meets s n)
  typed_meets e s none h f = h
  typed_meets e s (more p n) h f = typed_meets e (meet s (type_of_path p)) n (by_intersection h (f p first_in)) (λ q i. f q (later_in i))

  typed_all : (e : Applicative) (n : Paths) → IsTermOver count e → ((q : TypePath) → InPaths n q → Has e (type_of_path q)) → Has e (type_of_paths n)
  typed_all e none o f = typed_omega e o
  typed_all e (more p n) o f = typed_meets e (type_of_path p) n (f p first_in) (λ q i. f q (later_in i))

  suits_source : (f : Applicative) (n : Paths) (p : TypePath) → HasPath f (function n p) → SuitsAll variance n
  suits_source f n p h = (suits_path f (function n p) h).0

  path_typed : (e : Applicative) (p : TypePath) → IsTermOver count e → HasPath e p → Has e (type_of_path p)
  path_typed (component x) p o h = by_subsumption (by_instance (o, refl)) (above_sound below variance (some_above below variance reflexive transitive (paths x) p p h (le_refl below variance reflexive transitive p (suits_in below variance reflexive transitive (paths x) p (suited x) h))) (suited x) (suits_in below variance reflexive transitive (paths x) p (suited x) h))
  path_typed (apply f a) p o h =
      by_application (path_typed f (function h.0 p) o.0 h.1)
      (typed_all a h.0 o.1 (λ q i. let r = h.2 q i in by_subsumption (path_typed a r.0 o.1 r.1) (le_sound below variance r.2 (suits_path a r.0 r.1) (suits_in below variance reflexive transitive h.0 q (suits_source f h.0 p h.1) i))))

  pub reaches_typed : (e : Applicative) (n : Paths) → SuitsAll variance n → IsTermOver count e → HasAll e n → Has e (type_of_paths n)
  reaches_typed e n s o h = typed_all e n o (λ q i. let r = h q i in by_subsumption (path_typed e r.0 o r.1) (le_sound below variance r.2 (suits_path e r.0 r.1) (suits_in below variance reflexive transitive n q s i)))

  -- typing of a goal by paths
  pub typed_exactly : (e : Applicative) (n : Paths) → SuitsAll variance n → Has e (type_of_paths n) ↔ (IsTermOver count e × HasAll e n)
  typed_exactly e n s = ((λ h. (typed_over h, (λ q i. typed_reaches h q (subst (λ m. InPaths m q) (sym (paths_back n variance s)) i)))), (λ h. reaches_typed e n s h.0 h.1))
