-- Each type is equivalent to the intersection of its paths.
use Rattle.std.proofs.Common.{ℕ, ◌≡◌, refl, sym, subst, inl, inr}
use Rattle.cls_base.specs.Types as types
use Rattle.cls_base.specs.Types.{ClosedType, constructor, product, arrow, meet}
use Rattle.cls_base.specs.Taxonomies.{Variance, covariant, contravariant, invariant}
use Rattle.cls_base.specs.Subtyping.{Subtype, reflexivity, transitivity, to_omega, omega_arrow, meet_left, meet_right, to_meet, arrow_meet, arrows, covariants, covariant_meet, contravariants as sub_contra, invariants as sub_inv, products, product_meet}
use Rattle.cls_path.specs.Paths.{TypePath, atom, inside, unit, left, right, function, sealed, Paths, none, more, PathsLe, type_of_path, type_of_paths, meets, append, map_paths, or_one, constructor_paths, paths_of, first_in, later_in, SuitsAll}
use Rattle.cls_path.specs.NormalForms.{IsNormalForm}
use Rattle.cls_path.proofs.Soundness.{meets_head, meets_mono, to_meets, covers_sound}
use Rattle.cls_path.proofs.Completeness.{In, in_append, in_append_left, in_append_right, map_in, covers_subset, suits_paths, suits_append, suits_map, suits_or_one, in_or_one, product_paths}

module _ (below : ℕ → ℕ → Type 0) (variance : ℕ → Variance) (reflexive : (c : ℕ) → below c c) (transitive : (c d e : ℕ) → below c d → below d e → below c e) where
  abbrev S : ClosedType → ClosedType → Type 0
  S s t = Subtype below variance s t

  abbrev P : ClosedType → Paths
  P t = paths_of variance t

  -- the type is below each path of the list
  abbrev Each : ClosedType → Paths → Type 0
  Each s n = (q : TypePath) → In q n → S s (type_of_path q)

  into : (s : ClosedType) (n : Paths) → Each s n → S s (type_of_paths n)
  into s none f = to_omega
  into s (more q n) f = to_meets below variance s (type_of_path q) n (f q first_in) (into s n (λ r i. f r (later_in i)))

  each_map :
      (f : TypePath → TypePath) (s t : ClosedType) (n : Paths)
      → ((q : TypePath) → S s (type_of_path q) → S t (type_of_path (f q))) → Each s n → Each t (map_paths f n)
  each_map f s t n g h q i = let r = map_in f q n i in subst (λ x. S t (type_of_path x)) (sym r.2) (g r.0 (h r.0 r.1))

  each_or_one : (s : ClosedType) (p : TypePath) (n : Paths) → S s (type_of_path p) → Each s n → Each s (or_one p n)
  each_or_one s p none d f _ first_in = d
  each_or_one s p none d f q (later_in i) = elim i [ ]
  each_or_one s p (more r n) d f q i = f q i

  each_append : (s : ClosedType) (n m : Paths) → Each s n → Each s m → Each s (append n m)
  each_append s n m f g q i = elim (in_append q n m i) [ inl a ↦ f q a | inr b ↦ g q b ]

  -- intersections under one name, behind one source, on one side
  joined_inside :
      (c : ℕ) (t : ClosedType) (n : Paths) → variance c ≡ covariant
      → S (meets (constructor c t) (map_paths (inside c) n)) (constructor c (meets t n))
  joined_inside c t none v = reflexivity
  joined_inside c t (more q n) v = transitivity (meets_mono below variance _ _ (map_paths (inside c) n) (covariant_meet v)) (joined_inside c (meet t (type_of_path q)) n v)

  joined_arrow :
      (m : Paths) (t : ClosedType) (n : Paths)
      → S (meets (arrow (type_of_paths m) t) (map_paths (function m) n)) (arrow (type_of_paths m) (meets t n))
  joined_arrow m t none = reflexivity
  joined_arrow m t (more q n) = transitivity (meets_mono below variance _ _ (map_paths (function m) n) arrow_meet) (joined_arrow m (meet t (type_of_path q)) n)

  joined_left : (t : ClosedType) (n : Paths) → S (meets (product t types.omega) (map_paths left n)) (product (meets t n) types.omega)
  joined_left t none = reflexivity
  joined_left t (more q n) =
      transitivity (meets_mono below variance _ _ (map_paths left n) (transitivity product_meet (products reflexivity to_omega))) (joined_left (meet t (type_of_path q)) n)

  joined_right : (t : ClosedType) (n : Paths) → S (meets (product types.omega t) (map_paths right n)) (product types.omega (meets t n))
  joined_right t none = reflexivity
  joined_right t (more q n) =
      transitivity (meets_mono below variance _ _ (map_paths right n) (transitivity product_meet (products to_omega reflexivity))) (joined_right (meet t (type_of_path q)) n)

  -- a list is below a part of it
  part : (n m : Paths) → SuitsAll variance n → SuitsAll variance m → ((q : TypePath) → In q m → In q n) → S (type_of_paths n) (type_of_paths m)
  part n m s t f = covers_sound below variance (covers_subset below variance reflexive transitive n m t f) s t

  -- a product's paths are below both of its sides
  product_unit : (n m : Paths) → S (type_of_paths (or_one unit (product_paths below variance reflexive transitive n m))) (product types.omega types.omega)
  product_unit none none = reflexivity
  product_unit none (more q m) = transitivity (meets_head below variance _ (map_paths right m)) (products reflexivity to_omega)
  product_unit (more p n) m = transitivity (meets_head below variance _ (append (map_paths left n) (map_paths right m))) (products to_omega reflexivity)

  suits_product : (n m : Paths) → SuitsAll variance n → SuitsAll variance m → SuitsAll variance (or_one unit (append (map_paths left n) (map_paths right m)))
  suits_product n m s t =
      suits_or_one below variance reflexive transitive unit _ tt (suits_append below variance reflexive transitive _ _ (suits_map below variance reflexive transitive left (λ p h. h) n s) (suits_map below variance reflexive transitive right (λ p h. h) m t))

  product_left :
      (n m : Paths) → SuitsAll variance n → SuitsAll variance m
      → S (type_of_paths (or_one unit (append (map_paths left n) (map_paths right m)))) (product (type_of_paths n) types.omega)
  product_left none m s t = product_unit none m
  product_left (more p n) m s t =
      transitivity
      (part _ (map_paths left (more p n)) (suits_product (more p n) m s t) (suits_map below variance reflexive transitive left (λ q h. h) (more p n) s)
      (λ q i. in_append_left q (map_paths left (more p n)) (map_paths right m) i))
      (joined_left (type_of_path p) n)

  product_right :
      (n m : Paths) → SuitsAll variance n → SuitsAll variance m
      → S (type_of_paths (or_one unit (append (map_paths left n) (map_paths right m)))) (product types.omega (type_of_paths m))
  product_right n none s t = product_unit n none
  product_right n (more q m) s t =
      transitivity
      (part _ (map_paths right (more q m)) (suits_product n (more q m) s t) (suits_map below variance reflexive transitive right (λ p h. h) (more q m) t)
      (λ r i. in_or_one below variance reflexive transitive unit r _ (in_append_right r (map_paths left n) (map_paths right (more q m)) i)))
      (joined_right (type_of_path q) m)

  -- both ways at once, since an arrow and a contravariant name turn a list round
  record Known (t : ClosedType) (n : Paths) : Type 0 where
    down : Each t n
    up : S (type_of_paths n) t

  inside_up :
      (c : ℕ) (s : ClosedType) (n : Paths) → variance c ≡ covariant → S (type_of_paths n) s
      → S (type_of_paths (or_one (atom c) (map_paths (inside c) n))) (constructor c s)
  inside_up c s none v d = covariants v v (reflexive c) d
  inside_up c s (more q n) v d = transitivity (joined_inside c (type_of_path q) n v) (covariants v v (reflexive c) d)

  arrow_up :
      (m : Paths) (s t : ClosedType) (n : Paths) → S s (type_of_paths m) → S (type_of_paths n) t
      → S (type_of_paths (map_paths (function m) n)) (arrow s t)
  arrow_up m s t none d e = transitivity omega_arrow (arrows to_omega e)
  arrow_up m s t (more q n) d e = transitivity (joined_arrow m (type_of_path q) n) (arrows d e)

  one_path : (s t : ClosedType) → S s t → (q : TypePath) → t ≡ type_of_path q → Each s (more q none)
  one_path s t d q e _ first_in = subst (λ x. S s x) e d
  one_path s t d q e r (later_in i) = elim i [ ]

  constructor_known : (v : Variance) (c : ℕ) (s : ClosedType) (n : Paths) → variance c ≡ v → Known s n → Known (constructor c s) (constructor_paths v c n)
  constructor_known covariant c s n e k = record {
    down = each_or_one (constructor c s) (atom c) (map_paths (inside c) n) (covariants e e (reflexive c) to_omega)
        (each_map (inside c) s (constructor c s) n (λ q d. covariants e e (reflexive c) d) k.down);
    up = inside_up c s n e k.up;
  }
  constructor_known contravariant c s n e k = record {
    down = one_path (constructor c s) (constructor c (type_of_paths n)) (sub_contra e e (reflexive c) k.up) (sealed c n) refl;
    up = sub_contra e e (reflexive c) (into s n k.down);
  }
  constructor_known invariant c s n e k = record {
    down = one_path (constructor c s) (constructor c (type_of_paths n)) (sub_inv e e (reflexive c) (into s n k.down) k.up) (sealed c n) refl;
    up = sub_inv e e (reflexive c) k.up (into s n k.down);
  }

  known : (t : ClosedType) → Known t (P t)
  known types.omega = record { down = λ q i. elim i [ ]; up = to_omega }
  known (constructor c s) = constructor_known (variance c) c s (P s) refl (known s)
  known (product s t) =
      let k = known s in
      let l = known t in
      let n = P s in
      let m = P t in
      let a = suits_paths below variance reflexive transitive s in
      let b = suits_paths below variance reflexive transitive t in
      record {
        down = each_or_one (product s t) unit (append (map_paths left n) (map_paths right m)) (products to_omega to_omega)
            (each_append (product s t) (map_paths left n) (map_paths right m)
            (each_map left s (product s t) n (λ q d. products d to_omega) k.down)
            (each_map right t (product s t) m (λ q d. products to_omega d) l.down));
        up = transitivity (to_meet (product_left n m a b) (product_right n m a b))
            (transitivity product_meet (products (transitivity meet_left k.up) (transitivity meet_right l.up)));
      }
  known (arrow s t) =
      let k = known s in
      let l = known t in
      record {
        down = each_map (function (P s)) t (arrow s t) (P t) (λ q d. arrows k.up d) l.down;
        up = arrow_up (P s) s t (P t) (into s (P s) k.down) l.up;
      }
  known (meet s t) =
      let k = known s in
      let l = known t in
      let a = suits_paths below variance reflexive transitive s in
      let b = suits_paths below variance reflexive transitive t in
      let all = suits_append below variance reflexive transitive (P s) (P t) a b in
      record {
        down = each_append (meet s t) (P s) (P t) (λ q i. transitivity meet_left (k.down q i)) (λ q i. transitivity meet_right (l.down q i));
        up = to_meet
            (transitivity (part (append (P s) (P t)) (P s) all a (λ q i. in_append_left q (P s) (P t) i)) k.up)
            (transitivity (part (append (P s) (P t)) (P t) all b (λ q i. in_append_right q (P s) (P t) i)) l.up);
      }

  pub to_paths : (t : ClosedType) → Subtype below variance t (type_of_paths (paths_of variance t))
  to_paths t = into t (P t) (known t).down

  pub from_paths : (t : ClosedType) → Subtype below variance (type_of_paths (paths_of variance t)) t
  from_paths t = (known t).up

  pub paths_sound : (s t : ClosedType) → PathsLe below variance (paths_of variance s) (paths_of variance t) → Subtype below variance s t
  paths_sound s t h = transitivity (to_paths s) (transitivity (covers_sound below variance h (suits_paths below variance reflexive transitive s) (suits_paths below variance reflexive transitive t)) (from_paths t))

  -- a type and its normal form
  pub to_form : (t : ClosedType) (n : Paths) → IsNormalForm below variance t n → Subtype below variance t (type_of_paths n)
  to_form t n h = transitivity (to_paths t) (covers_sound below variance h.upper (suits_paths below variance reflexive transitive t) h.normal.suits)

  pub from_form : (t : ClosedType) (n : Paths) → IsNormalForm below variance t n → Subtype below variance (type_of_paths n) t
  from_form t n h = transitivity (covers_sound below variance h.lower h.normal.suits (suits_paths below variance reflexive transitive t)) (from_paths t)
