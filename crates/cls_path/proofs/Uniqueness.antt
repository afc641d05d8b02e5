-- Canonical lists that are below each other are equal, so equivalent types have one normal form.
use Rattle.std.proofs.Common.{◌≡◌, refl, sym, ◌∙◌, ap, subst, ℕ, ◌⊎◌, inl, inr}
use Rattle.std.specs.declared.cmp.Ordering.TheVariants.{Less, Equal}
use Rattle.cls_base.specs.Types.{ClosedType}
use Rattle.cls_base.specs.Taxonomies.{Variance}
use Rattle.cls_base.specs.Subtyping.{Subtype}
use Rattle.cls_path.specs.Paths.{TypePath, atom, inside, unit, left, right, function, sealed, Paths, none, more, PathLe, atoms, insides, lefts, rights, functions, contravariants, invariants, PathsLe, first_in, later_in, paths_of}
use Rattle.cls_path.specs.NormalForms.{PathBefore, LeadsAntichain, IsCanonicalPath, IsCanonical, IsNormalForm}
use Rattle.cls_path.specs.OrderLaws.{path_order_total}
use Rattle.cls_path.proofs.Sorting.{before_less, less_before, path_self}
use Rattle.cls_path.proofs.Transitivity.{le_trans, covers_trans}
use Rattle.cls_path.proofs.Completeness.{In, covered, complete}

pub before_trans : (p q r : TypePath) → PathBefore p q → PathBefore q r → PathBefore p r
before_trans p q r h k = less_before p r (path_order_total.trans p q r (before_less h) (before_less k))

pub not_before_itself : (p : TypePath) → PathBefore p p → ⊥
not_before_itself p h = let e : Less ≡ Equal = sym (before_less h) ∙ path_self p in cc

no_circle : (p q : TypePath) → PathBefore p q → PathBefore q p → ⊥
no_circle p q h k = not_before_itself p (before_trans p q p h k)

-- the path is before each of the list
abbrev LeadsAll : TypePath → Paths → Type 0
LeadsAll p n = (q : TypePath) → In q n → PathBefore p q

-- strictly sorted
abbrev InOrder : Paths → Type 0
InOrder none = Unit {0}
InOrder (more p n) = LeadsAll p n × InOrder n

abbrev Within : Paths → Paths → Type 0
Within n m = (p : TypePath) → In p n → In p m

in_more : (q p : TypePath) (n : Paths) → In q (more p n) → (p ≡ q) ⊎ In q n
in_more _ p n first_in = inl refl
in_more q p n (later_in i) = inr i

heads : (p q : TypePath) (n m : Paths) → LeadsAll p n → LeadsAll q m → (p ≡ q) ⊎ In q n → (q ≡ p) ⊎ In p m → p ≡ q
heads p q n m h k (inl e) j = e
heads p q n m h k (inr i) (inl e) = sym e
heads p q n m h k (inr i) (inr j) = absurd (no_circle p q (h q i) (k p j))

tail_within : (p : TypePath) (n m : Paths) → LeadsAll p n → Within (more p n) (more p m) → Within n m
tail_within p n m h f x i = elim (in_more x p m (f x (later_in i))) [
  | inl e ↦ absurd (not_before_itself p (subst (λ y. PathBefore p y) (sym e) (h x i)))
  | inr j ↦ j
]

-- sorted lists with the same paths are equal
same_members : (n m : Paths) → InOrder n → InOrder m → Within n m → Within m n → n ≡ m
same_members none none h k f g = refl
same_members none (more q m) h k f g = elim (g q first_in) [ ]
same_members (more p n) none h k f g = elim (f p first_in) [ ]
same_members (more p n) (more q m) h k f g =
    let e = heads p q n m h.0 k.0 (in_more q p n (g q first_in)) (in_more p q m (f p first_in)) in
    let k' : LeadsAll p m = subst (λ x. LeadsAll x m) (sym e) k.0 in
    let f' : Within (more p n) (more p m) = λ x i. subst (λ y. In x (more y m)) (sym e) (f x i) in
    let g' : Within (more p m) (more p n) = λ x i. g x (subst (λ y. In x (more y m)) e i) in
    λ i. more (e i) (same_members n m h.1 k.1 (tail_within p n m h.0 f') (tail_within p m n k' g') i)

module _ (below : ℕ → ℕ → Type 0) (variance : ℕ → Variance) (reflexive : (c : ℕ) → below c c) (transitive : (c d e : ℕ) → below c d → below d e → below c e) (antisymmetric : (c d : ℕ) → below c d → below d c → c ≡ d) where
  abbrev Le : TypePath → TypePath → Type 0
  Le p q = PathLe below variance p q

  abbrev Lists : Paths → Paths → Type 0
  Lists n m = PathsLe below variance n m

  abbrev Canonical : Paths → Type 0
  Canonical n = IsCanonical below variance n

  abbrev CanonicalPath : TypePath → Type 0
  CanonicalPath p = IsCanonicalPath below variance p

  led : (p q : TypePath) (n : Paths) → LeadsAntichain below variance p n → In q n → PathBefore p q × (Le p q → ⊥) × (Le q p → ⊥)
  led p q none h i = elim i [ ]
  led p _ (more r n) h first_in = (h.0, h.1, h.2)
  led p q (more r n) h (later_in i) = led p q n h.3 i

  pub canonical_in : (n : Paths) (p : TypePath) → IsCanonical below variance n → In p n → IsCanonicalPath below variance p
  canonical_in none p h i = elim i [ ]
  canonical_in (more r n) _ h first_in = h.0
  canonical_in (more r n) p h (later_in i) = canonical_in n p h.2 i

  in_order : (n : Paths) → Canonical n → InOrder n
  in_order none h = tt
  in_order (more p n) h = ((λ q i. (led p q n h.1 i).0), in_order n h.2)

  -- no path of a canonical list is below another
  pub antichain : (n : Paths) (p q : TypePath) → Canonical n → In p n → In q n → Le p q → p ≡ q
  antichain none p q h i j d = elim i [ ]
  antichain (more r n) _ _ h first_in first_in d = refl
  antichain (more r n) _ q h first_in (later_in j) d = absurd ((led r q n h.1 j).1 d)
  antichain (more r n) p _ h (later_in i) first_in d = absurd ((led r p n h.1 i).2 d)
  antichain (more r n) p q h (later_in i) (later_in j) d = antichain n p q h.2 i j d

  abbrev Single : TypePath → Type 0
  Single p = (q : TypePath) → CanonicalPath p → CanonicalPath q → Le p q → Le q p → p ≡ q

  abbrev EachSingle : Paths → Type 0
  EachSingle none = Unit {0}
  EachSingle (more p n) = Single p × EachSingle n

  single_in : (n : Paths) (p : TypePath) → EachSingle n → In p n → Single p
  single_in none p h i = elim i [ ]
  single_in (more r n) _ h first_in = h.0
  single_in (more r n) p h (later_in i) = single_in n p h.1 i

  -- a path of the first list is one of the second, and the other way round
  carried : (n m : Paths) → EachSingle n → Canonical n → Canonical m → Lists n m → Lists m n → Within n m
  carried n m s h k c d x i =
      let y = covered below variance reflexive transitive m n d x i in
      let z = covered below variance reflexive transitive n m c y.0 y.1 in
      let e = antichain n z.0 x h z.1 i (le_trans below variance reflexive transitive y.0 z.0 x z.2 y.2) in
      let l : Le x y.0 = subst (λ w. Le w y.0) e z.2 in
      subst (λ w. In w m) (sym (single_in n x s i y.0 (canonical_in n x h i) (canonical_in m y.0 k y.1) l y.2)) y.1

  carried_back : (n m : Paths) → EachSingle n → Canonical n → Canonical m → Lists n m → Lists m n → Within m n
  carried_back n m s h k c d y i =
      let x = covered below variance reflexive transitive n m c y i in
      let z = covered below variance reflexive transitive m n d x.0 x.1 in
      let e = antichain m z.0 y k z.1 i (le_trans below variance reflexive transitive x.0 z.0 y z.2 x.2) in
      let l : Le y x.0 = subst (λ w. Le w x.0) e z.2 in
      subst (λ w. In w n) (single_in n x.0 s x.1 y (canonical_in n x.0 h x.1) (canonical_in m y k i) x.2 l) x.1

  same_lists : (n m : Paths) → EachSingle n → Canonical n → Canonical m → Lists n m → Lists m n → n ≡ m
  same_lists n m s h k c d = same_members n m (in_order n h) (in_order m k) (carried n m s h k c d) (carried_back n m s h k c d)

  mutual
    single : (p : TypePath) → Single p
    single (atom c) (atom d) s t (atoms h) (atoms k) = ap atom (antisymmetric c d h k)
    single (atom c) (inside d q) s t h k = elim h [ ]
    single (atom c) unit s t h k = elim h [ ]
    single (atom c) (left q) s t h k = elim h [ ]
    single (atom c) (right q) s t h k = elim h [ ]
    single (atom c) (function m q) s t h k = elim h [ ]
    single (atom c) (sealed d m) s t h k = elim h [ ]
    single (inside c p) (atom d) s t h k = elim k [ ]
    single (inside c p) (inside d q) s t (insides h a) (insides k b) = λ i. inside (antisymmetric c d h k i) (single p q s t a b i)
    single (inside c p) unit s t h k = elim h [ ]
    single (inside c p) (left q) s t h k = elim h [ ]
    single (inside c p) (right q) s t h k = elim h [ ]
    single (inside c p) (function m q) s t h k = elim h [ ]
    single (inside c p) (sealed d m) s t h k = elim h [ ]
    single unit (atom d) s t h k = elim h [ ]
    single unit (inside d q) s t h k = elim h [ ]
    single unit unit s t h k = refl
    single unit (left q) s t h k = elim h [ ]
    single unit (right q) s t h k = elim h [ ]
    single unit (function m q) s t h k = elim h [ ]
    single unit (sealed d m) s t h k = elim h [ ]
    single (left p) (atom d) s t h k = elim h [ ]
    single (left p) (inside d q) s t h k = elim h [ ]
    single (left p) unit s t h k = elim k [ ]
    single (left p) (left q) s t (lefts a) (lefts b) = ap left (single p q s t a b)
    single (left p) (right q) s t h k = elim h [ ]
    single (left p) (function m q) s t h k = elim h [ ]
    single (left p) (sealed d m) s t h k = elim h [ ]
    single (right p) (atom d) s t h k = elim h [ ]
    single (right p) (inside d q) s t h k = elim h [ ]
    single (right p) unit s t h k = elim k [ ]
    single (right p) (left q) s t h k = elim h [ ]
    single (right p) (right q) s t (rights a) (rights b) = ap right (single p q s t a b)
    single (right p) (function m q) s t h k = elim h [ ]
    single (right p) (sealed d m) s t h k = elim h [ ]
    single (function n p) (atom d) s t h k = elim h [ ]
    single (function n p) (inside d q) s t h k = elim h [ ]
    single (function n p) unit s t h k = elim h [ ]
    single (function n p) (left q) s t h k = elim h [ ]
    single (function n p) (right q) s t h k = elim h [ ]
    single (function n p) (function m q) s t (functions c a) (functions d b) =
        λ i. function (same_lists n m (each_single n) s.0 t.0 d c i) (single p q s.1 t.1 a b i)
    single (function n p) (sealed d m) s t h k = elim h [ ]
    single (sealed c n) (atom d) s t h k = elim h [ ]
    single (sealed c n) (inside d q) s t h k = elim h [ ]
    single (sealed c n) unit s t h k = elim h [ ]
    single (sealed c n) (left q) s t h k = elim h [ ]
    single (sealed c n) (right q) s t h k = elim h [ ]
    single (sealed c n) (function m q) s t h k = elim h [ ]
    single (sealed c n) (sealed d m) s t (contravariants v w a h) (contravariants v' w' b k) =
        λ i. sealed (antisymmetric c d a b i) (same_lists n m (each_single n) s t k h i)
    single (sealed c n) (sealed d m) s t (contravariants v w a h) (invariants v' w' b k l) =
        λ i. sealed (antisymmetric c d a b i) (same_lists n m (each_single n) s t l h i)
    single (sealed c n) (sealed d m) s t (invariants v w a h j) (contravariants v' w' b k) =
        λ i. sealed (antisymmetric c d a b i) (same_lists n m (each_single n) s t h j i)
    single (sealed c n) (sealed d m) s t (invariants v w a h j) (invariants v' w' b k l) =
        λ i. sealed (antisymmetric c d a b i) (same_lists n m (each_single n) s t h j i)

    each_single : (n : Paths) → EachSingle n
    each_single none = tt
    each_single (more p n) = (single p, each_single n)

  pub canonical_unique :
      (n m : Paths) → IsCanonical below variance n → IsCanonical below variance m → PathsLe below variance n m
      → PathsLe below variance m n → n ≡ m
  canonical_unique n m h k c d = same_lists n m (each_single n) h k c d

  -- equivalent types have one normal form
  pub form_unique :
      (s t : ClosedType) (n m : Paths) → IsNormalForm below variance s n → IsNormalForm below variance t m
      → Subtype below variance s t → Subtype below variance t s → n ≡ m
  form_unique s t n m h k d e =
      canonical_unique n m h.normal.canonical k.normal.canonical
      (through n m (paths_of variance s) (paths_of variance t) h.lower (complete below variance reflexive transitive d) k.upper)
      (through m n (paths_of variance t) (paths_of variance s) k.lower (complete below variance reflexive transitive e) h.upper)
    where
      through : (n m a b : Paths) → PathsLe below variance n a → PathsLe below variance a b → PathsLe below variance b m → PathsLe below variance n m
      through n m a b f g h = covers_trans below variance reflexive transitive n a m f (covers_trans below variance reflexive transitive a b m g h)
