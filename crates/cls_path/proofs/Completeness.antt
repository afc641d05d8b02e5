-- Each derivation of subtyping is an order of paths.
use Rattle.std.proofs.Common.{ℕ, ◌≡◌, refl, sym, subst, ap, ◌⊎◌, inl, inr}
use Rattle.cls_base.specs.Types.{ClosedType, omega, constructor, product, arrow, meet}
use Rattle.cls_base.specs.Taxonomies.{Variance, covariant, contravariant, invariant}
use Rattle.cls_base.specs.Subtyping.{Subtype, reflexivity, transitivity, to_omega, omega_arrow, meet_left, meet_right, to_meet, arrow_meet, arrows, covariants, covariant_meet, contravariants as sub_contra, invariants as sub_inv, products, product_meet}
use Rattle.cls_path.specs.Paths.{TypePath, atom, inside, unit, left, right, function, sealed, Paths, none, more, PathLe, atoms, inside_atom, insides, units, left_unit, right_unit, lefts, rights, functions, contravariants, invariants, SomeLe, here, there, PathsLe, empty, each, Suits, SuitsAll, append, map_paths, or_one, constructor_paths, paths_of, InPaths, first_in, later_in}
use Rattle.cls_path.proofs.Transitivity.{widen, covers_trans}

-- turned round
abbrev pub In : TypePath → Paths → Type 0
In p n = InPaths n p

pub in_append_left : (p : TypePath) (n m : Paths) → In p n → In p (append n m)
in_append_left p none m h = elim h [ ]
in_append_left p (more q n) m first_in = first_in
in_append_left p (more q n) m (later_in h) = later_in (in_append_left p n m h)

pub in_append_right : (p : TypePath) (n m : Paths) → In p m → In p (append n m)
in_append_right p none m h = h
in_append_right p (more q n) m h = later_in (in_append_right p n m h)

pub in_append : (p : TypePath) (n m : Paths) → In p (append n m) → In p n ⊎ In p m
in_append p none m h = inr h
in_append p (more q n) m first_in = inl first_in
in_append p (more q n) m (later_in h) = elim (in_append p n m h) [ inl a ↦ inl (later_in a) | inr b ↦ inr b ]

pub in_map : (f : TypePath → TypePath) (p : TypePath) (n : Paths) → In p n → In (f p) (map_paths f n)
in_map f p none h = elim h [ ]
in_map f p (more q n) first_in = first_in
in_map f p (more q n) (later_in h) = later_in (in_map f p n h)

pub map_in : (f : TypePath → TypePath) (q : TypePath) (n : Paths) → In q (map_paths f n) → (p : TypePath) × In p n × (q ≡ f p)
map_in f q none h = elim h [ ]
map_in f q (more p n) first_in = (p, first_in, refl)
map_in f q (more p n) (later_in h) = let r = map_in f q n h in (r.0, later_in r.1, r.2)

map_append : (f : TypePath → TypePath) (n m : Paths) → map_paths f (append n m) ≡ append (map_paths f n) (map_paths f m)
map_append f none m = refl
map_append f (more p n) m = ap (more (f p)) (map_append f n m)

in_or_one₀ : (p q : TypePath) (n : Paths) → In q n → In q (or_one p n)
in_or_one₀ p q none h = elim h [ ]
in_or_one₀ p q (more r n) h = h

within_covariant :
    (c : ℕ) (q : TypePath) (n m : Paths) → In q (constructor_paths covariant c (append n m))
    → In q (append (constructor_paths covariant c n) (constructor_paths covariant c m))
within_covariant c q none m i = later_in i
within_covariant c q (more p n) m i =
    let r = map_in (inside c) q (append (more p n) m) i in
    elim (in_append r.0 (more p n) m r.1) [
      | inl a ↦ in_append_left q (map_paths (inside c) (more p n)) _ (subst (λ x. In x (map_paths (inside c) (more p n))) (sym r.2) (in_map (inside c) r.0 (more p n) a))
      | inr b ↦ in_append_right q (map_paths (inside c) (more p n)) _ (in_or_one₀ (atom c) q _ (subst (λ x. In x (map_paths (inside c) m)) (sym r.2) (in_map (inside c) r.0 m b)))
    ]

module _ (below : ℕ → ℕ → Type 0) (variance : ℕ → Variance) (reflexive : (c : ℕ) → below c c) (transitive : (c d e : ℕ) → below c d → below d e → below c e) where
  -- some member is below the path
  abbrev pub Some : Paths → TypePath → Type 0
  Some n q = (p : TypePath) × In p n × PathLe below variance p q

  pub above_some : (n : Paths) (q : TypePath) → SomeLe below variance n q → Some n q
  above_some none q h = elim h [ ]
  above_some (more p n) q (here h) = (p, first_in, h)
  above_some (more p n) q (there a) = let r = above_some n q a in (r.0, later_in r.1, r.2)

  pub some_above : (n : Paths) (p q : TypePath) → In p n → PathLe below variance p q → SomeLe below variance n q
  some_above none p q i h = elim i [ ]
  some_above (more r n) _ q first_in h = here h
  some_above (more r n) p q (later_in i) h = there (some_above n p q i h)

  pub covered : (n m : Paths) → PathsLe below variance n m → (q : TypePath) → In q m → Some n q
  covered n none h q i = elim i [ ]
  covered n (more r m) (each a h) _ first_in = above_some n r a
  covered n (more r m) (each a h) q (later_in i) = covered n m h q i

  pub covers_all : (n m : Paths) → ((q : TypePath) → In q m → Some n q) → PathsLe below variance n m
  covers_all n none f = empty
  covers_all n (more q m) f = let r = f q first_in in each (some_above n r.0 q r.1 r.2) (covers_all n m (λ x i. f x (later_in i)))

  mutual
    pub le_refl : (p : TypePath) → Suits variance p → PathLe below variance p p
    le_refl (atom c) s = atoms (reflexive c)
    le_refl (inside c p) s = insides (reflexive c) (le_refl p s.1)
    le_refl unit s = units
    le_refl (left p) s = lefts (le_refl p s)
    le_refl (right p) s = rights (le_refl p s)
    le_refl (function n p) s = functions (covers_refl n s.0) (le_refl p s.1)
    le_refl (sealed c n) s = elim s.0 [ inl v ↦ contravariants v v (reflexive c) (covers_refl n s.1) | inr v ↦ invariants v v (reflexive c) (covers_refl n s.1) (covers_refl n s.1) ]

    pub covers_refl : (n : Paths) → SuitsAll variance n → PathsLe below variance n n
    covers_refl none s = empty
    covers_refl (more p n) s = each (here (le_refl p s.0)) (widen below variance reflexive transitive n n p (covers_refl n s.1))

  pub suits_append : (n m : Paths) → SuitsAll variance n → SuitsAll variance m → SuitsAll variance (append n m)
  suits_append none m s t = t
  suits_append (more p n) m s t = (s.0, suits_append n m s.1 t)

  pub suits_map :
      (f : TypePath → TypePath) → ((p : TypePath) → Suits variance p → Suits variance (f p)) → (n : Paths)
      → SuitsAll variance n → SuitsAll variance (map_paths f n)
  suits_map f g none s = tt
  suits_map f g (more p n) s = (g p s.0, suits_map f g n s.1)

  pub suits_or_one : (p : TypePath) (n : Paths) → Suits variance p → SuitsAll variance n → SuitsAll variance (or_one p n)
  suits_or_one p none s t = (s, tt)
  suits_or_one p (more q n) s t = t

  pub suits_constructor : (v : Variance) (c : ℕ) (n : Paths) → variance c ≡ v → SuitsAll variance n → SuitsAll variance (constructor_paths v c n)
  suits_constructor covariant c n e s = suits_or_one (atom c) (map_paths (inside c) n) e (suits_map (inside c) (λ p t. (e, t)) n s)
  suits_constructor contravariant c n e s = ((inl e, s), tt)
  suits_constructor invariant c n e s = ((inr e, s), tt)

  pub suits_paths : (t : ClosedType) → SuitsAll variance (paths_of variance t)
  suits_paths omega = tt
  suits_paths (constructor c s) = suits_constructor (variance c) c (paths_of variance s) refl (suits_paths s)
  suits_paths (product s t) = suits_or_one unit _ tt (suits_append _ _ (suits_map left (λ p h. h) _ (suits_paths s)) (suits_map right (λ p h. h) _ (suits_paths t)))
  suits_paths (arrow s t) = suits_map (function (paths_of variance s)) (λ p h. (suits_paths s, h)) _ (suits_paths t)
  suits_paths (meet s t) = suits_append _ _ (suits_paths s) (suits_paths t)

  -- a member with Suits
  pub suits_in : (n : Paths) (p : TypePath) → SuitsAll variance n → In p n → Suits variance p
  suits_in none p s i = elim i [ ]
  suits_in (more r n) _ s first_in = s.0
  suits_in (more q n) p s (later_in i) = suits_in n p s.1 i

  pub covers_subset : (n m : Paths) → SuitsAll variance m → ((q : TypePath) → In q m → In q n) → PathsLe below variance n m
  covers_subset n m s f = covers_all n m (λ q i. (q, f q i, le_refl q (suits_in m q s i)))

  pub covers_append : (n m l : Paths) → PathsLe below variance n m → PathsLe below variance n l → PathsLe below variance n (append m l)
  covers_append n none l h k = k
  covers_append n (more q m) l (each a h) k = each a (covers_append n m l h k)

  pub covers_map_both :
      (f g : TypePath → TypePath) → ((p q : TypePath) → PathLe below variance p q → PathLe below variance (f p) (g q))
      → (n m : Paths) → PathsLe below variance n m → PathsLe below variance (map_paths f n) (map_paths g m)
  covers_map_both f g u n m h = covers_all _ _ (λ q i. let r = map_in g q m i in let s = covered n m h r.0 r.1 in (f s.0, in_map f s.0 n s.1, subst (λ x. PathLe below variance (f s.0) x) (sym r.2) (u s.0 r.0 s.2)))

  self_some :
      (f : TypePath → TypePath) (q r : TypePath) (n : Paths) → q ≡ f r → In r n
      → ((p : TypePath) → Suits variance p → Suits variance (f p)) → SuitsAll variance n → Some (map_paths f n) q
  self_some f q r n e i g s = subst (λ x. Some (map_paths f n) x) (sym e) (f r, in_map f r n i, le_refl (f r) (g r (suits_in n r s i)))

  pub at_variance : (P : Variance → Type 0) (x v : Variance) → x ≡ v → P v → P x
  at_variance P x v e h = subst P (sym e) h

  pub in_or_one : (p q : TypePath) (n : Paths) → In q n → In q (or_one p n)
  in_or_one p q none h = elim h [ ]
  in_or_one p q (more r n) h = h

  -- what covers the members and the one path covers the list or the one path
  pub covers_or_one : (n : Paths) (p : TypePath) (m : Paths) → Some n p → ((q : TypePath) → In q m → Some n q) → PathsLe below variance n (or_one p m)
  covers_or_one n p none s f = each (some_above n s.0 p s.1 s.2) empty
  covers_or_one n p (more q m) s f = covers_all n (more q m) f

  pub some_or_one : (p q : TypePath) (n : Paths) → Some n q → Some (or_one p n) q
  some_or_one p q n s = (s.0, in_or_one p s.0 n s.1, s.2)

  -- some member of a list or the one path is below what all of these are below
  pub some_of : (p r : TypePath) (n : Paths) → PathLe below variance p r → ((q : TypePath) → In q n → PathLe below variance q r) → Some (or_one p n) r
  some_of p r none h f = (p, first_in, h)
  some_of p r (more q n) h f = (q, first_in, f q first_in)

  below_atom : (c d : ℕ) → below c d → (q : TypePath) (n : Paths) → In q (map_paths (inside c) n) → PathLe below variance q (atom d)
  below_atom c d b q n i = let r = map_in (inside c) q n i in subst (λ x. PathLe below variance x (atom d)) (sym r.2) (inside_atom b)

  pub covers_covariant :
      (c d : ℕ) (n m : Paths) → below c d → PathsLe below variance n m
      → PathsLe below variance (constructor_paths covariant c n) (constructor_paths covariant d m)
  covers_covariant c d n m b h =
      covers_or_one _ (atom d) (map_paths (inside d) m)
      (some_of (atom c) (atom d) (map_paths (inside c) n) (atoms b) (λ q i. below_atom c d b q n i))
      (λ q i. some_or_one (atom c) q _ (covered _ _ (covers_map_both (inside c) (inside d) (λ x y l. insides b l) n m h) q i))

  covers_covariant_meet :
      (c : ℕ) (n m : Paths) → variance c ≡ covariant → SuitsAll variance n → SuitsAll variance m
      → PathsLe below variance (append (constructor_paths covariant c n) (constructor_paths covariant c m)) (constructor_paths covariant c (append n m))
  covers_covariant_meet c n m v s t =
      covers_subset _ _ (suits_or_one (atom c) _ v (suits_map (inside c) (λ p u. (v, u)) _ (suits_append n m s t))) (λ q i. within_covariant c q n m i)

  -- the members of a product's paths
  abbrev pub product_paths : Paths → Paths → Paths
  product_paths n m = append (map_paths left n) (map_paths right m)

  product_below : (n m : Paths) (q : TypePath) → In q (product_paths n m) → PathLe below variance q unit
  product_below n m q i = elim (in_append q _ _ i) [
    | inl a ↦ (let r = map_in left q n a in subst (λ x. PathLe below variance x unit) (sym r.2) left_unit)
    | inr b ↦ (let r = map_in right q m b in subst (λ x. PathLe below variance x unit) (sym r.2) right_unit)
  ]

  pub some_left : (q : TypePath) (n m : Paths) → Some n q → Some (append n m) q
  some_left q n m s = (s.0, in_append_left s.0 n m s.1, s.2)

  pub some_right : (q : TypePath) (n m : Paths) → Some m q → Some (append n m) q
  some_right q n m s = (s.0, in_append_right s.0 n m s.1, s.2)

  pub covers_products :
      (n m n' m' : Paths) → PathsLe below variance n n' → PathsLe below variance m m'
      → PathsLe below variance (or_one unit (product_paths n m)) (or_one unit (product_paths n' m'))
  covers_products n m n' m' h k =
      covers_or_one _ unit (product_paths n' m')
      (some_of unit unit (product_paths n m) units (λ q i. product_below n m q i))
      (λ q i. some_or_one unit q (product_paths n m) (elim (in_append q _ _ i) [
        | inl a ↦ some_left q _ _ (covered _ _ (covers_map_both left left (λ x y l. lefts l) n n' h) q a)
        | inr b ↦ some_right q _ _ (covered _ _ (covers_map_both right right (λ x y l. rights l) m m' k) q b)
      ]))

  covers_product_meet :
      (n m n' m' : Paths) → SuitsAll variance n → SuitsAll variance m → SuitsAll variance n' → SuitsAll variance m'
      → PathsLe below variance (append (or_one unit (product_paths n m)) (or_one unit (product_paths n' m'))) (or_one unit (product_paths (append n n') (append m m')))
  covers_product_meet n m n' m' s t s' t' =
      covers_or_one _ unit (product_paths (append n n') (append m m'))
      (some_left unit _ _ (some_of unit unit (product_paths n m) units (λ q i. product_below n m q i)))
      (λ q i. elim (in_append q _ _ i) [
        | inl a ↦ (let r = map_in left q _ a in elim (in_append r.0 n n' r.1) [
          | inl b ↦ some_left q _ _ (some_or_one unit q _ (some_left q _ _ (self_some left q r.0 n r.2 b (λ p u. u) s)))
          | inr b ↦ some_right q _ _ (some_or_one unit q _ (some_left q _ _ (self_some left q r.0 n' r.2 b (λ p u. u) s')))
        ])
        | inr a ↦ (let r = map_in right q _ a in elim (in_append r.0 m m' r.1) [
          | inl b ↦ some_left q _ _ (some_or_one unit q _ (some_right q _ _ (self_some right q r.0 m r.2 b (λ p u. u) t)))
          | inr b ↦ some_right q _ _ (some_or_one unit q _ (some_right q _ _ (self_some right q r.0 m' r.2 b (λ p u. u) t')))
        ])
      ])

  -- under two names of the variance
  under_names :
      (v : Variance) (c d : ℕ) (s t : ClosedType) → variance c ≡ v → variance d ≡ v
      → PathsLe below variance (constructor_paths v c (paths_of variance s)) (constructor_paths v d (paths_of variance t))
      → PathsLe below variance (paths_of variance (constructor c s)) (paths_of variance (constructor d t))
  under_names v c d s t e f h =
      let n = paths_of variance s in
      let m = paths_of variance t in
      at_variance (λ x. PathsLe below variance (constructor_paths x c n) (constructor_paths (variance d) d m)) _ v e
      (at_variance (λ x. PathsLe below variance (constructor_paths v c n) (constructor_paths x d m)) _ v f h)

  pub complete : {s t : ClosedType} → Subtype below variance s t → PathsLe below variance (paths_of variance s) (paths_of variance t)
  complete (reflexivity {s = s}) = covers_refl _ (suits_paths s)
  complete (transitivity {s = s} {t = t} {u = u} h k) = covers_trans below variance reflexive transitive (paths_of variance s) (paths_of variance t) (paths_of variance u) (complete h) (complete k)
  complete to_omega = empty
  complete omega_arrow = empty
  complete (meet_left {s = s} {t = t}) = covers_subset _ _ (suits_paths s) (λ q i. in_append_left q _ _ i)
  complete (meet_right {s = s} {t = t}) = covers_subset _ _ (suits_paths t) (λ q i. in_append_right q _ _ i)
  complete (to_meet h k) = covers_append _ _ _ (complete h) (complete k)
  complete (arrow_meet {s = s} {t = t} {u = u}) =
      subst (λ x. PathsLe below variance x (paths_of variance (arrow s (meet t u))))
      (map_append (function (paths_of variance s)) (paths_of variance t) (paths_of variance u))
      (covers_refl _ (suits_paths (arrow s (meet t u))))
  complete (arrows h k) = covers_map_both _ _ (λ p q x. functions (complete h) x) _ _ (complete k)
  complete (covariants {c = c} {d = d} {s = s} {t = t} v w b h) =
      under_names covariant c d s t v w (covers_covariant c d _ _ b (complete h))
  complete (covariant_meet {c = c} {s = s} {t = t} v) =
      let n = paths_of variance s in
      let m = paths_of variance t in
      at_variance (λ x. PathsLe below variance (append (constructor_paths x c n) (constructor_paths x c m)) (constructor_paths x c (append n m)))
      _ covariant v (covers_covariant_meet c _ _ v (suits_paths s) (suits_paths t))
  complete (sub_contra {c = c} {d = d} {s = s} {t = t} v w b h) =
      under_names contravariant c d s t v w (each (here (contravariants v w b (complete h))) empty)
  complete (sub_inv {c = c} {d = d} {s = s} {t = t} v w b h k) =
      under_names invariant c d s t v w (each (here (invariants v w b (complete h) (complete k))) empty)
  complete (products h k) = covers_products _ _ _ _ (complete h) (complete k)
  complete (product_meet {s = s} {t = t} {s' = s'} {t' = t'}) = covers_product_meet _ _ _ _ (suits_paths s) (suits_paths t) (suits_paths s') (suits_paths t')
