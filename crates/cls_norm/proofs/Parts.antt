-- What each form of type adds behind a step, and what is below a type by its parts.
use Rattle.std.proofs.Common.{◌≡◌, refl, sym, ◌∙◌, ap, subst, ℕ, ◌+◌, ◌<◌, ◌↔◌, ◌⊎◌, inl, inr, List, [], ◌∷◌, ◌++◌, length, get_or, drop, arith, Bor}
use Rattle.std.proofs.lemmas.List.{drop_more}
use Rattle.std.specs.Prelude.{Option, Some, None}
use Rattle.cls_base.specs.Types.{ClosedType, constructor, product, arrow, meet, nodes, path_count}
use Rattle.cls_base.specs.Taxonomies.{Variance, covariant, contravariant, invariant}
use Rattle.cls_base.specs.Ty.{type_of}
use Rattle.cls_base.specs.declared.ty.Ty.{Ty}
use Rattle.cls_path.specs.Paths.{TypePath, atom, inside, unit, sealed, Paths, none, more, here, there, PathsLe, empty, each, append, map_paths, or_one, constructor_paths, paths_of}
use Rattle.cls_norm.specs.declared.subtypes.Step.{Step}
use Rattle.cls_norm.specs.declared.subtypes.Step.TheVariants.{Name, Source, Left, Right}
use Rattle.cls_norm.specs.Subtypes.{paths_of_all, Stands, IsEntered, Joins, Adds}
use Rattle.cls_norm.proofs.Pathless.{no_paths}
use Rattle.cls_norm.proofs.Steps.{shape, product_shape, arrow_shape, covariant_shape, append_none, Above, some_shape, from_inside, to_inside, from_atom, to_atom, from_function, to_function, from_left, to_left, from_right, to_right, to_unit, nothing, one}

none_some : (p : TypePath) → ◌≡◌ {A = Option TypePath} None (Some p) → ⊥
none_some p e = cc

some_is : (p q : TypePath) → ◌≡◌ {A = Option TypePath} (Some p) (Some q) → p ≡ q
some_is p q e = cc

append_assoc : (n m l : Paths) → append (append n m) l ≡ append n (append m l)
append_assoc none m l = refl
append_assoc (more p n) m l = ap (more p) (append_assoc n m l)

pub joins_one : (old : List (Bor Ty)) (t : Bor Ty) → Joins (type_of t.now) old (old ++ (t ∷ []))
joins_one [] t v = append_none (paths_of v (type_of t.now))
joins_one (u ∷ old) t v =
    let n = paths_of v (type_of u.now) in
    ap (append n) (joins_one old t v) ∙ sym (append_assoc n (paths_of_all v old) (paths_of v (type_of t.now)))

pub joins_both : (s t : ClosedType) (old mid new : List (Bor Ty)) → Joins s old mid → Joins t mid new → Joins (meet s t) old new
joins_both s t old mid new a b v =
    b v ∙ (ap (λ (n : Paths). append n (paths_of v t)) (a v) ∙ append_assoc (paths_of_all v old) (paths_of v s) (paths_of v t))

pub drop_item : (xs : List (Bor Ty)) (i : ℕ) (x : Bor Ty) → i < length xs → x ≡ get_or xs i x → drop i xs ≡ x ∷ drop (i + 1) xs
drop_item xs i x h e = drop_more xs i x h ∙ ap (λ (y : Bor Ty). y ∷ drop (i + 1) xs) (sym e)

module _ (below : ℕ → ℕ → Type 0) (variance : ℕ → Variance) where
  abbrev Over : Paths → TypePath → Type 0
  Over n q = Above below variance n q

  abbrev P : ClosedType → Paths
  P t = paths_of variance t

  abbrev All : List (Bor Ty) → Paths
  All ts = paths_of_all variance ts

  abbrev Le : Paths → Paths → Type 0
  Le n m = PathsLe below variance n m

  -- names
  con_shape : (w : Variance) (c : ℕ) (n : Paths) (q : TypePath) → Over (constructor_paths w c n) q → (shape q ≡ 0) ⊎ (shape q ≡ 3)
  con_shape covariant c n q h = inl (some_shape below variance 0 (or_one (atom c) (map_paths (inside c) n)) q (covariant_shape c n) h)
  con_shape contravariant c n q h = inr (some_shape below variance 3 (more (sealed c n) none) q (refl, tt) h)
  con_shape invariant c n q h = inr (some_shape below variance 3 (more (sealed c n) none) q (refl, tt) h)

  con_inside : (w : Variance) (c d : ℕ) (n : Paths) (q : TypePath) → Over (constructor_paths w c n) (inside d q) → below c d
  con_inside covariant c d n q h = (from_inside below variance c d n q h).0
  con_inside contravariant c d n q (here h) = elim h [ ]
  con_inside contravariant c d n q (there a) = elim a [ ]
  con_inside invariant c d n q (here h) = elim h [ ]
  con_inside invariant c d n q (there a) = elim a [ ]

  con_atom : (w : Variance) (c d : ℕ) (n : Paths) → Over (constructor_paths w c n) (atom d) → below c d
  con_atom covariant c d n h = from_atom below variance c d n h
  con_atom contravariant c d n (here h) = elim h [ ]
  con_atom contravariant c d n (there a) = elim a [ ]
  con_atom invariant c d n (here h) = elim h [ ]
  con_atom invariant c d n (there a) = elim a [ ]

  not_con : (w : Variance) (c : ℕ) (n : Paths) (q : TypePath) (k : ℕ) → 0 < k → k < 3 → shape q ≡ k → Over (constructor_paths w c n) q → ⊥
  not_con w c n q k h j e o = elim (con_shape w c n q o) [ inl a ↦ omega arith | inr b ↦ omega arith ]

  -- a name below the covariant one
  pub name_at :
      ((c d : ℕ) → below c d → variance c ≡ variance d) → (c d : ℕ) (s : ClosedType) → variance d ≡ covariant
      → below c d ↔ Over (P (constructor c s)) (atom d)
  name_at same c d s v = (
    (λ b. subst (λ (w : Variance). Over (constructor_paths w c (P s)) (atom d)) (sym (same c d b ∙ v)) (to_atom below variance c d (P s) b)),
    (λ h. con_atom (variance c) c d (P s) h),
  )

  pub name_entered :
      ((c d : ℕ) → below c d → variance c ≡ variance d) → (step : Step) (c : ℕ) (s : ClosedType) (t : Bor Ty) (old new : List (Bor Ty))
      → s ≡ type_of t.now → new ≡ old ++ (t ∷ []) → Stands variance step → IsEntered below step c
      → Adds below variance step (P (constructor c s)) (1 + nodes s) old new
  name_entered same (Source k) c s t old new e f v b = elim b [ ]
  name_entered same Left c s t old new e f v b = elim b [ ]
  name_entered same Right c s t old new e f v b = elim b [ ]
  name_entered same (Name d) c s t old new e f v b =
      let w : variance c ≡ covariant = same c d.0 b ∙ v in
      let n = P s in
      let g : P s ≡ P (type_of t.now) = ap P e in
      let j : nodes s ≡ nodes (type_of t.now) = ap nodes e in
      subst (λ (x : Variance). Adds below variance (Name d) (constructor_paths x c n) (1 + nodes s) old new) (sym w)
      (one below variance (Name d) (or_one (atom c) (map_paths (inside c) n)) (1 + nodes s) old new t f
      (λ q. (
        (λ h. subst (λ (m : Paths). Over m q) g (from_inside below variance c d.0 n q h).1),
        (λ h. to_inside below variance c d.0 n q b (subst (λ (m : Paths). Over m q) (sym g) h)),
      ))
      (λ p i. subst (λ (r : TypePath). Over (or_one (atom c) (map_paths (inside c) n)) r) (some_is (atom d.0) p i) (to_atom below variance c d.0 n b))
      (omega arith))

  pub name_passed :
      (step : Step) (c : ℕ) (s : ClosedType) (old : List (Bor Ty)) → (IsEntered below step c → ⊥)
      → Adds below variance step (P (constructor c s)) (1 + nodes s) old old
  name_passed (Name d) c s old f = nothing below variance (Name d) (P (constructor c s)) (1 + nodes s) old
      (λ q h. f (con_inside (variance c) c d.0 (P s) q h))
      (λ p e h. f (con_atom (variance c) c d.0 (P s) (subst (λ (r : TypePath). Over (P (constructor c s)) r) (sym (some_is (atom d.0) p e)) h)))
  name_passed (Source k) c s old f = nothing below variance (Source k) (P (constructor c s)) (1 + nodes s) old
      (λ q h. not_con (variance c) c (P s) _ 2 (omega arith) (omega arith) refl h)
      (λ p e h. none_some p e)
  name_passed Left c s old f = nothing below variance Left (P (constructor c s)) (1 + nodes s) old
      (λ q h. not_con (variance c) c (P s) _ 1 (omega arith) (omega arith) refl h)
      (λ p e h. not_con (variance c) c (P s) p 1 (omega arith) (omega arith) (ap shape (sym (some_is unit p e))) h)
  name_passed Right c s old f = nothing below variance Right (P (constructor c s)) (1 + nodes s) old
      (λ q h. not_con (variance c) c (P s) _ 1 (omega arith) (omega arith) refl h)
      (λ p e h. not_con (variance c) c (P s) p 1 (omega arith) (omega arith) (ap shape (sym (some_is unit p e))) h)

  -- products
  pub left_part :
      (s u : ClosedType) (t : Bor Ty) (old new : List (Bor Ty)) → s ≡ type_of t.now → new ≡ old ++ (t ∷ [])
      → Adds below variance Left (P (product s u)) (1 + nodes s + nodes u) old new
  left_part s u t old new e f =
      let g : P s ≡ P (type_of t.now) = ap P e in
      let j : nodes s ≡ nodes (type_of t.now) = ap nodes e in
      one below variance Left (P (product s u)) (1 + nodes s + nodes u) old new t f
      (λ q. (
        (λ h. subst (λ (m : Paths). Over m q) g (from_left below variance (P s) (P u) q h)),
        (λ h. to_left below variance (P s) (P u) q (subst (λ (m : Paths). Over m q) (sym g) h)),
      ))
      (λ p i. subst (λ (r : TypePath). Over (P (product s u)) r) (some_is unit p i) (to_unit below variance (P s) (P u)))
      (omega arith)

  pub right_part :
      (s u : ClosedType) (t : Bor Ty) (old new : List (Bor Ty)) → u ≡ type_of t.now → new ≡ old ++ (t ∷ [])
      → Adds below variance Right (P (product s u)) (1 + nodes s + nodes u) old new
  right_part s u t old new e f =
      let g : P u ≡ P (type_of t.now) = ap P e in
      let j : nodes u ≡ nodes (type_of t.now) = ap nodes e in
      one below variance Right (P (product s u)) (1 + nodes s + nodes u) old new t f
      (λ q. (
        (λ h. subst (λ (m : Paths). Over m q) g (from_right below variance (P s) (P u) q h)),
        (λ h. to_right below variance (P s) (P u) q (subst (λ (m : Paths). Over m q) (sym g) h)),
      ))
      (λ p i. subst (λ (r : TypePath). Over (P (product s u)) r) (some_is unit p i) (to_unit below variance (P s) (P u)))
      (omega arith)

  not_product : (s u : ClosedType) (q : TypePath) (k : ℕ) → (1 ≡ k → ⊥) → shape q ≡ k → Over (P (product s u)) q → ⊥
  not_product s u q k f e h = f (sym (some_shape below variance 1 (P (product s u)) q (product_shape (P s) (P u)) h) ∙ e)

  pub product_name : (d : _) (s u : ClosedType) (old : List (Bor Ty)) → Adds below variance (Name d) (P (product s u)) (1 + nodes s + nodes u) old old
  product_name d s u old = nothing below variance (Name d) (P (product s u)) (1 + nodes s + nodes u) old
      (λ q h. not_product s u _ 0 (λ e. omega arith) refl h)
      (λ p e h. not_product s u p 0 (λ e. omega arith) (ap shape (sym (some_is (atom d.0) p e))) h)

  pub product_source : (k : Bor Ty) (s u : ClosedType) (old : List (Bor Ty)) → Adds below variance (Source k) (P (product s u)) (1 + nodes s + nodes u) old old
  product_source k s u old = nothing below variance (Source k) (P (product s u)) (1 + nodes s + nodes u) old
      (λ q h. not_product s u _ 2 (λ e. omega arith) refl h)
      (λ p e h. none_some p e)

  -- arrows
  pub source_above :
      (k : Bor Ty) (s u : ClosedType) (t : Bor Ty) (old new : List (Bor Ty)) → u ≡ type_of t.now → new ≡ old ++ (t ∷ [])
      → Le (P (type_of k.now)) (P s) → Adds below variance (Source k) (P (arrow s u)) (1 + nodes s + nodes u) old new
  source_above k s u t old new e f l =
      let g : P u ≡ P (type_of t.now) = ap P e in
      let j : nodes u ≡ nodes (type_of t.now) = ap nodes e in
      one below variance (Source k) (P (arrow s u)) (1 + nodes s + nodes u) old new t f
      (λ q. (
        (λ h. subst (λ (m : Paths). Over m q) g (from_function below variance (P s) (P (type_of k.now)) (P u) q h).1),
        (λ h. to_function below variance (P s) (P (type_of k.now)) (P u) q l (subst (λ (m : Paths). Over m q) (sym g) h)),
      ))
      (λ p i. absurd (none_some p i))
      (omega arith)

  pub source_passed :
      (k : Bor Ty) (s u : ClosedType) (old : List (Bor Ty)) → (Le (P (type_of k.now)) (P s) → ⊥)
      → Adds below variance (Source k) (P (arrow s u)) (1 + nodes s + nodes u) old old
  source_passed k s u old f = nothing below variance (Source k) (P (arrow s u)) (1 + nodes s + nodes u) old
      (λ q h. f (from_function below variance (P s) (P (type_of k.now)) (P u) q h).0)
      (λ p e h. none_some p e)

  not_arrow : (s u : ClosedType) (q : TypePath) (k : ℕ) → (2 ≡ k → ⊥) → shape q ≡ k → Over (P (arrow s u)) q → ⊥
  not_arrow s u q k f e h = f (sym (some_shape below variance 2 (P (arrow s u)) q (arrow_shape (P s) (P u)) h) ∙ e)

  pub arrow_name : (d : _) (s u : ClosedType) (old : List (Bor Ty)) → Adds below variance (Name d) (P (arrow s u)) (1 + nodes s + nodes u) old old
  arrow_name d s u old = nothing below variance (Name d) (P (arrow s u)) (1 + nodes s + nodes u) old
      (λ q h. not_arrow s u _ 0 (λ e. omega arith) refl h)
      (λ p e h. not_arrow s u p 0 (λ e. omega arith) (ap shape (sym (some_is (atom d.0) p e))) h)

  pub arrow_left : (s u : ClosedType) (old : List (Bor Ty)) → Adds below variance Left (P (arrow s u)) (1 + nodes s + nodes u) old old
  arrow_left s u old = nothing below variance Left (P (arrow s u)) (1 + nodes s + nodes u) old
      (λ q h. not_arrow s u _ 1 (λ e. omega arith) refl h)
      (λ p e h. not_arrow s u p 1 (λ e. omega arith) (ap shape (sym (some_is unit p e))) h)

  pub arrow_right : (s u : ClosedType) (old : List (Bor Ty)) → Adds below variance Right (P (arrow s u)) (1 + nodes s + nodes u) old old
  arrow_right s u old = nothing below variance Right (P (arrow s u)) (1 + nodes s + nodes u) old
      (λ q h. not_arrow s u _ 1 (λ e. omega arith) refl h)
      (λ p e h. not_arrow s u p 1 (λ e. omega arith) (ap shape (sym (some_is unit p e))) h)

  -- omega
  pub none_added : (step : Step) (k : ℕ) (old : List (Bor Ty)) → Adds below variance step none k old old
  none_added step k old = nothing below variance step none k old (λ q h. elim h [ ]) (λ p e h. elim h [ ])

  -- an arrow without a path
  pub pathless_passed : (step : Step) (s u : ClosedType) (old : List (Bor Ty)) → path_count u ≡ 0 → Adds below variance step (P (arrow s u)) (1 + nodes s + nodes u) old old
  pathless_passed step s u old e =
      let k = 1 + nodes s + nodes u in
      subst (λ (n : Paths). Adds below variance step n k old old) (sym (no_paths variance (arrow s u) e)) (none_added step k old)

  -- lists of paths above one
  pub le_append : (x n m : Paths) → Le x (append n m) ↔ (Le x n × Le x m)
  le_append x none m = ((λ h. (empty, h)), (λ h. h.1))
  le_append x (more q n) m = (
    (λ h. elim h [ each a l ↦ ((let r = (le_append x n m).0 l in (each a r.0, r.1))) ]),
    (λ h. elim h.0 [ each a l ↦ each a ((le_append x n m).1 (l, h.1)) ]),
  )

  pub le_through : (f : TypePath → TypePath) (x y : Paths) → ((q : TypePath) → Over y q ↔ Over x (f q)) → (n : Paths) → Le y n ↔ Le x (map_paths f n)
  le_through f x y g none = ((λ h. empty), (λ h. empty))
  le_through f x y g (more q n) = (
    (λ h. elim h [ each a l ↦ each ((g q).0 a) ((le_through f x y g n).0 l) ]),
    (λ h. elim h [ each a l ↦ each ((g q).1 a) ((le_through f x y g n).1 l) ]),
  )
