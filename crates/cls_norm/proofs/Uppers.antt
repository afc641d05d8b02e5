-- When types are below a type, by the form of that type.
use Rattle.std.proofs.Common.{◌≡◌, refl, sym, ◌∙◌, ap, subst, ℕ, zero, suc, ◌+◌, ◌<◌, ◌↔◌, inl, inr, List, [], ◌∷◌, length, get_or, drop, arith, Bor, true}
use Rattle.std.specs.Prelude.{Some}
use Rattle.std.specs.Ordering.{is_eq}
use Rattle.std.proofs.lemmas.Bool.{false≢true}
use Rattle.std.specs.declared.cmp.Ordering.{Ordering}
use Rattle.std.specs.declared.cmp.Ordering.TheVariants.{Less, Equal, Greater}
use Rattle.cls_base.specs.Types as types
use Rattle.cls_base.specs.Types.{ClosedType, constructor, product, arrow, meet, nodes}
use Rattle.cls_base.specs.Taxonomies.{Variance, covariant, contravariant, invariant}
use Rattle.cls_base.specs.Ty.{type_of}
use Rattle.cls_base.specs.declared.ty.Ty.{Ty}
use Rattle.cls_path.specs.Paths.{TypePath, atom, inside, unit, left, right, function, sealed, Paths, none, more, PathLe, inside_atom, insides, left_unit, right_unit, lefts, rights, contravariants, invariants, here, there, PathsLe, empty, each, append, map_paths, or_one, constructor_paths, paths_of, listed}
use Rattle.cls_norm.specs.declared.subtypes.Step.{Step}
use Rattle.cls_norm.specs.declared.subtypes.Step.TheVariants.{Name, Source, Left, Right}
use Rattle.cls_norm.specs.Subtypes.{paths_of_all, nodes_of_all, IsAsked, IsFilled, IsSealing, path_behind, path_at, paths_behind, Adds}
use Rattle.cls_norm.proofs.Steps.{product_shape, arrow_shape, covariant_shape, Above, some_shape, from_append, to_append_first, to_append_second}
use Rattle.cls_norm.proofs.Pathless.{none_counted}
use Rattle.cls_norm.proofs.Parts.{drop_item, le_append, le_through}

pub equal_of : (o : Ordering) → is_eq o ≡ true → o ≡ Equal
equal_of Less h = absurd (false≢true h)
equal_of Equal h = refl
equal_of Greater h = absurd (false≢true h)

pub listed_same : (n m : List TypePath) → listed n ≡ listed m → n ≡ m
listed_same [] [] e = refl
listed_same [] (q ∷ m) e = absurd (let f : none ≡ more q (listed m) = e in cc)
listed_same (p ∷ n) [] e = absurd (let f : more p (listed n) ≡ none = e in cc)
listed_same (p ∷ n) (q ∷ m) e =
    let f : more p (listed n) ≡ more q (listed m) = e in
    let h : p ≡ q = cc in
    let k : listed n ≡ listed m = cc in
    λ i. h i ∷ listed_same n m k i

-- neither a name over a type nor an intersection
abbrev pub IsOther : ClosedType → Type 0
IsOther types.omega = Unit {0}
IsOther (constructor c s) = ⊥
IsOther (product s u) = Unit {0}
IsOther (arrow s u) = Unit {0}
IsOther (meet s u) = ⊥

pub not_covariant : (w : Variance) → IsSealing w → covariant ≡ w → ⊥
not_covariant covariant (inl e) h = let f : covariant ≡ contravariant = e in cc
not_covariant covariant (inr e) h = let f : covariant ≡ invariant = e in cc
not_covariant contravariant s h = let f : covariant ≡ contravariant = h in cc
not_covariant invariant s h = let f : covariant ≡ invariant = h in cc

pub nodes_at : (xs : List (Bor Ty)) (i : ℕ) (x : Bor Ty) → i < length xs → x ≡ get_or xs i x → nodes (type_of x.now) < nodes_of_all xs
nodes_at [] i x h e = absurd (omega arith)
nodes_at (y ∷ xs) zero x h e = let f : nodes (type_of x.now) ≡ nodes (type_of y.now) = ap (λ (z : Bor Ty). nodes (type_of z.now)) e in omega arith
nodes_at (y ∷ xs) (suc i) x h e = let f = nodes_at xs i x (omega arith) e in omega arith

pub filled : (ts : List (Bor Ty)) → (length ts ≡ 0 → ⊥) → IsFilled ts
filled [] f = f refl
filled (t ∷ ts) f = tt

pub unfilled : (ts : List (Bor Ty)) → length ts ≡ 0 → ts ≡ []
unfilled [] e = refl
unfilled (t ∷ ts) e = absurd (omega arith)

module _ (below : ℕ → ℕ → Type 0) (variance : ℕ → Variance) where
  abbrev Over : Paths → TypePath → Type 0
  Over n q = Above below variance n q

  abbrev P : ClosedType → Paths
  P t = paths_of variance t

  abbrev All : List (Bor Ty) → Paths
  All ts = paths_of_all variance ts

  abbrev Le : Paths → Paths → Type 0
  Le n m = PathsLe below variance n m

  under_atom : {c : ℕ} {p q : TypePath} → PathLe below variance p (inside c q) → PathLe below variance p (atom c)
  under_atom (insides b h) = inside_atom b

  on_left : {p q : TypePath} → PathLe below variance p (left q) → PathLe below variance p unit
  on_left (lefts h) = left_unit

  on_right : {p q : TypePath} → PathLe below variance p (right q) → PathLe below variance p unit
  on_right (rights h) = right_unit

  pub nowhere : (q : TypePath) → Over none q → ⊥
  nowhere q h = elim h [ ]

  widened : (q r : TypePath) → ((p : TypePath) → PathLe below variance p q → PathLe below variance p r) → (n : Paths) → Over n q → Over n r
  widened q r f none h = elim h [ ]
  widened q r f (more p n) (here h) = here (f p h)
  widened q r f (more p n) (there a) = there (widened q r f n a)

  to_or_one : (x : Paths) (p : TypePath) (m : Paths) → Over x p → Le x m → Le x (or_one p m)
  to_or_one x p none a h = each a empty
  to_or_one x p (more q m) a h = h

  from_or_one : (x : Paths) (p : TypePath) (m : Paths) → Le x (or_one p m) → Le x m
  from_or_one x p none h = empty
  from_or_one x p (more q m) h = h

  first_of : (x : Paths) (q : TypePath) (m : Paths) → Le x (more q m) → Over x q
  first_of x q m (each a h) = a

  head : (g : TypePath → TypePath) (p : TypePath) (x : Paths) → ((q : TypePath) → Over x (g q) → Over x p) → (n : Paths) → Le x (or_one p (map_paths g n)) → Over x p
  head g p x f none h = first_of x p none h
  head g p x f (more q n) h = f q (first_of x (g q) (map_paths g n) h)

  -- the parts behind a step
  through : (step : Step) (x : Paths) (k : ℕ) (parts : List (Bor Ty)) → Adds below variance step x k [] parts → (q : TypePath) → Over (All parts) q ↔ Over x (path_behind variance step q)
  through step x k parts a q = ((λ h. elim ((a.behind q).0 h) [ inl b ↦ elim b [ ] | inr b ↦ b ]), (λ h. (a.behind q).1 (inr h)))

  ending : (step : Step) (x : Paths) (k : ℕ) (parts : List (Bor Ty)) (p : TypePath) → path_at step ≡ Some p → Adds below variance step x k [] parts → IsFilled parts → Over x p
  ending step x k parts p e a f = elim ((a.at p e).0 f) [ inl b ↦ absurd b | inr b ↦ b ]

  decide_at :
      (g : TypePath → TypePath) (p : TypePath) (x y n : Paths) → ((q : TypePath) → Over y q ↔ Over x (g q)) → Over x p
      → Le y n ↔ Le x (or_one p (map_paths g n))
  decide_at g p x y n t o = (
    (λ h. to_or_one x p (map_paths g n) o ((le_through below variance g x y t n).0 h)),
    (λ h. (le_through below variance g x y t n).1 (from_or_one x p (map_paths g n) h)),
  )

  pub parts_decide :
      (step : Step) (x : Paths) (k : ℕ) (parts : List (Bor Ty)) (n : Paths) → Adds below variance step x k [] parts
      → IsFilled parts → Le (All parts) n ↔ Le x (paths_behind variance step n)
  parts_decide (Name c) x k parts n a f = decide_at (inside c.0) (atom c.0) x (All parts) n (through (Name c) x k parts a) (ending (Name c) x k parts (atom c.0) refl a f)
  parts_decide (Source s) x k parts n a f = le_through below variance (function (P (type_of s.now))) x (All parts) (through (Source s) x k parts a) n
  parts_decide Left x k parts n a f = decide_at left unit x (All parts) n (through Left x k parts a) (ending Left x k parts unit refl a f)
  parts_decide Right x k parts n a f = decide_at right unit x (All parts) n (through Right x k parts a) (ending Right x k parts unit refl a f)

  -- behind a source that no arrow takes there is no path
  no_source : (s : Bor Ty) (x : Paths) (k : ℕ) (n : Paths) → Adds below variance (Source s) x k [] [] → Le x (map_paths (function (P (type_of s.now))) n) → n ≡ none
  no_source s x k none a h = refl
  no_source s x k (more q n) a h = absurd (nowhere q ((through (Source s) x k [] a q).1 (first_of x (function (P (type_of s.now)) q) (map_paths (function (P (type_of s.now))) n) h)))

  pub parts_lack :
      (step : Step) (x : Paths) (k : ℕ) (t : ClosedType) → Adds below variance step x k [] [] → IsAsked step t
      → Le x (paths_behind variance step (P t)) → ⊥
  parts_lack (Name c) x k t a f h = (a.at (atom c.0) refl).1 (inr (head (inside c.0) (atom c.0) x (λ q o. widened (inside c.0 q) (atom c.0) (λ p l. under_atom l) x o) (P t) h))
  parts_lack (Source s) x k t a f h = f (none_counted variance t (no_source s x k (P t) a h))
  parts_lack Left x k t a f h = (a.at unit refl).1 (inr (head left unit x (λ q o. widened (left q) unit (λ p l. on_left l) x o) (P t) h))
  parts_lack Right x k t a f h = (a.at unit refl).1 (inr (head right unit x (λ q o. widened (right q) unit (λ p l. on_right l) x o) (P t) h))

  -- products
  unit_head : (x n m : Paths) → Le x (or_one unit (append (map_paths left n) (map_paths right m))) → Over x unit
  unit_head x none none h = first_of x unit none h
  unit_head x none (more q m) h = widened (right q) unit (λ p l. on_right l) x (first_of x (right q) (map_paths right m) h)
  unit_head x (more p n) m h = widened (left p) unit (λ q l. on_left l) x (first_of x (left p) (append (map_paths left n) (map_paths right m)) h)

  pub sides_decide :
      (x n m : Paths) → (Le x (or_one unit (map_paths left n)) × Le x (or_one unit (map_paths right m)))
      ↔ Le x (or_one unit (append (map_paths left n) (map_paths right m)))
  sides_decide x n m =
      let l = map_paths left n in
      let r = map_paths right m in (
        (λ h. to_or_one x unit (append l r) (head left unit x (λ q o. widened (left q) unit (λ p k. on_left k) x o) n h.0)
            ((le_append below variance x l r).1 (from_or_one x unit l h.0, from_or_one x unit r h.1))),
        (λ h.
            let u = unit_head x n m h in
            let b = (le_append below variance x l r).0 (from_or_one x unit (append l r) h) in
            (to_or_one x unit l u b.0, to_or_one x unit r u b.1)),
      )

  -- names that are not covariant
  pub sealed_upper : (w : Variance) → IsSealing w → (x : Paths) (c : ℕ) (n : Paths) → Over x (sealed c n) ↔ Le x (constructor_paths w c n)
  sealed_upper covariant s x c n = absurd (elim s [ inl e ↦ (let f : covariant ≡ contravariant = e in cc) | inr e ↦ (let f : covariant ≡ invariant = e in cc) ])
  sealed_upper contravariant s x c n = ((λ a. each a empty), (λ h. first_of x (sealed c n) none h))
  sealed_upper invariant s x c n = ((λ a. each a empty), (λ h. first_of x (sealed c n) none h))

  single_below : (c d : ℕ) (n m : Paths) → Over (more (sealed c n) none) (sealed d m) → below c d
  single_below c d n m (here (contravariants v w b h)) = b
  single_below c d n m (here (invariants v w b h k)) = b
  single_below c d n m (there a) = elim a [ ]

  -- a covariant name over omega
  pub bare_upper : (x : Paths) (c : ℕ) (n : Paths) → n ≡ none → Over x (atom c) ↔ Le x (constructor_paths covariant c n)
  bare_upper x c n e = subst (λ (m : Paths). Over x (atom c) ↔ Le x (constructor_paths covariant c m)) (sym e) ((λ a. each a empty), (λ h. first_of x (atom c) none h))

  pub name_below : (w : Variance) (c d : ℕ) (n m : Paths) → Over (constructor_paths w c n) (sealed d m) → below c d
  name_below covariant c d n m h = let e : ◌≡◌ {A = ℕ} 3 0 = some_shape below variance 0 (or_one (atom c) (map_paths (inside c) n)) (sealed d m) (covariant_shape c n) h in absurd (omega arith)
  name_below contravariant c d n m h = single_below c d n m h
  name_below invariant c d n m h = single_below c d n m h

  from_contra : (c d : ℕ) (n m : Paths) → variance c ≡ contravariant → Over (more (sealed c n) none) (sealed d m) → Le m n
  from_contra c d n m e (here (contravariants v w b h)) = h
  from_contra c d n m e (here (invariants v w b h k)) = absurd (let f : contravariant ≡ invariant = sym e ∙ v in cc)
  from_contra c d n m e (there a) = elim a [ ]

  from_inv : (c d : ℕ) (n m : Paths) → variance c ≡ invariant → Over (more (sealed c n) none) (sealed d m) → Le n m × Le m n
  from_inv c d n m e (here (contravariants v w b h)) = absurd (let f : contravariant ≡ invariant = sym v ∙ e in cc)
  from_inv c d n m e (here (invariants v w b h k)) = (h, k)
  from_inv c d n m e (there a) = elim a [ ]

  pub contra_decides :
      (c d : ℕ) (s : ClosedType) (m : Paths) → variance c ≡ contravariant → variance d ≡ contravariant → below c d
      → Le m (P s) ↔ Over (P (constructor c s)) (sealed d m)
  contra_decides c d s m v w b = subst (λ (x : Variance). Le m (P s) ↔ Over (constructor_paths x c (P s)) (sealed d m)) (sym v)
      ((λ h. here (contravariants v w b h)), (λ h. from_contra c d (P s) m v h))

  pub inv_decides :
      (c d : ℕ) (s : ClosedType) (m : Paths) → variance c ≡ invariant → variance d ≡ invariant → below c d
      → (Le (P s) m × Le m (P s)) ↔ Over (P (constructor c s)) (sealed d m)
  inv_decides c d s m v w b = subst (λ (x : Variance). (Le (P s) m × Le m (P s)) ↔ Over (constructor_paths x c (P s)) (sealed d m)) (sym v)
      ((λ h. here (invariants v w b h.0 h.1)), (λ h. from_inv c d (P s) m v h))

  pub sealing_needs :
      ((c d : ℕ) → below c d → variance c ≡ variance d) → (c d : ℕ) (s : ClosedType) (m : Paths) → IsSealing (variance d)
      → below c d → Over (P (constructor c s)) (sealed d m) → Le m (P s)
  sealing_needs same c d s m (inl w) b o = (contra_decides c d s m (same c d b ∙ w) w b).1 o
  sealing_needs same c d s m (inr w) b o = ((inv_decides c d s m (same c d b ∙ w) w b).1 o).1

  product_not_sealed : (s u : ClosedType) (d : ℕ) (m : Paths) → Over (P (product s u)) (sealed d m) → ⊥
  product_not_sealed s u d m h = let e : ◌≡◌ {A = ℕ} 3 1 = some_shape below variance 1 (P (product s u)) (sealed d m) (product_shape (P s) (P u)) h in omega arith

  arrow_not_sealed : (s u : ClosedType) (d : ℕ) (m : Paths) → Over (P (arrow s u)) (sealed d m) → ⊥
  arrow_not_sealed s u d m h = let e : ◌≡◌ {A = ℕ} 3 2 = some_shape below variance 2 (P (arrow s u)) (sealed d m) (arrow_shape (P s) (P u)) h in omega arith

  pub other_not_named : (t : ClosedType) → IsOther t → (d : ℕ) → Over (P t) (atom d) → ⊥
  other_not_named types.omega o d h = elim h [ ]
  other_not_named (constructor c s) o d h = o
  other_not_named (product s u) o d h = let e : ◌≡◌ {A = ℕ} 0 1 = some_shape below variance 1 (P (product s u)) (atom d) (product_shape (P s) (P u)) h in omega arith
  other_not_named (arrow s u) o d h = let e : ◌≡◌ {A = ℕ} 0 2 = some_shape below variance 2 (P (arrow s u)) (atom d) (arrow_shape (P s) (P u)) h in omega arith
  other_not_named (meet s u) o d h = o

  pub other_not_sealed : (t : ClosedType) → IsOther t → (d : ℕ) (m : Paths) → Over (P t) (sealed d m) → ⊥
  other_not_sealed types.omega o d m h = elim h [ ]
  other_not_sealed (constructor c s) o d m h = o
  other_not_sealed (product s u) o d m h = product_not_sealed s u d m h
  other_not_sealed (arrow s u) o d m h = arrow_not_sealed s u d m h
  other_not_sealed (meet s u) o d m h = o

  -- one of several types
  pub some_at : (xs : List (Bor Ty)) (i : ℕ) (x : Bor Ty) (q : TypePath) → i < length xs → x ≡ get_or xs i x → Over (P (type_of x.now)) q → Over (All xs) q
  some_at [] i x q h e o = absurd (omega arith)
  some_at (y ∷ xs) zero x q h e o = to_append_first below variance (P (type_of y.now)) (All xs) q (subst (λ (z : Bor Ty). Over (P (type_of z.now)) q) e o)
  some_at (y ∷ xs) (suc i) x q h e o = to_append_second below variance (P (type_of y.now)) (All xs) q (some_at xs i x q (omega arith) e o)

  pub none_at :
      (xs : List (Bor Ty)) (i : ℕ) (x : Bor Ty) (q : TypePath) → i < length xs → x ≡ get_or xs i x
      → (Over (P (type_of x.now)) q → ⊥) → Over (All (drop i xs)) q → Over (All (drop (i + 1) xs)) q
  none_at xs i x q h e f o =
      let n = P (type_of x.now) in
      elim (from_append below variance n (All (drop (i + 1) xs)) q (subst (λ (l : List (Bor Ty)). Over (All l) q) (drop_item xs i x h e) o)) [ inl a ↦ absurd (f a) | inr b ↦ b ]
