-- What is computed of two paths or lists says which comes before the other.
use Rattle.std.proofs.Common.{ℕ, ◌≡◌, ◌<◌, ◌↔◌, refl, sym, ◌∙◌, subst, arith, List, [], ◌∷◌, ◌⊎◌, inl, inr}
use Rattle.std.proofs.lemmas.Bool.Decides.{nat_tests}
use Rattle.std.specs.declared.cmp.Ordering.{Ordering}
use Rattle.std.specs.declared.cmp.Ordering.TheVariants.{Less, Equal, Greater}
use Rattle.std.specs.Ordering.{nat_cmp, ordering_then, ordering_reverse}
use Rattle.std.specs.FinMap.{nat_cmp-IsAntisymmetric}
use Rattle.cls_path.specs.Paths.{TypePath, atom, inside, unit, left, right, function, sealed, Paths, none, more, listed}
use Rattle.cls_path.specs.NormalForms.{kind_of, PathBefore, by_kind, atoms, inside_name, inside_path, lefts, rights, function_list, function_path, sealed_name, sealed_list, PathsBefore, prefix, first, rest}
use Rattle.cls_path.specs.PathOrder.{path_order, paths_order, list_order}
use Rattle.cls_path.specs.OrderLaws.{path_order_total, order_same, paths_same, list_order_total}
use Rattle.cls_path.proofs.Orders.{paths_order-listed}

pub nat_less : (c d : ℕ) → c < d → nat_cmp c d ≡ Less
nat_less c d h = grind (arith, nat_tests)

pub less_nat : (c d : ℕ) → nat_cmp c d ≡ Less → c < d
less_nat c d h = grind (arith, nat_tests)

nat_self : (c : ℕ) → nat_cmp c c ≡ Equal
nat_self c = grind (arith, nat_tests)

then_first : (o p : Ordering) → o ≡ Less → ordering_then o p ≡ Less
then_first Less p h = refl
then_first Equal p h = cc
then_first Greater p h = cc

then_second : (o p q : Ordering) → o ≡ Equal → p ≡ q → ordering_then o p ≡ q
then_second Less p q h k = cc
then_second Equal p q h k = k
then_second Greater p q h k = cc

mutual
  pub path_self : (p : TypePath) → path_order p p ≡ Equal
  path_self (atom c) = nat_self c
  path_self (inside c p) = then_second _ _ _ (nat_self c) (path_self p)
  path_self unit = refl
  path_self (left p) = path_self p
  path_self (right p) = path_self p
  path_self (function n p) = then_second _ _ _ (paths_self n) (path_self p)
  path_self (sealed c n) = then_second _ _ _ (nat_self c) (paths_self n)

  pub paths_self : (n : Paths) → paths_order n n ≡ Equal
  paths_self none = refl
  paths_self (more p n) = then_second _ _ _ (path_self p) (paths_self n)

-- paths of two kinds
kinds_less : (p q : TypePath) → kind_of p < kind_of q → path_order p q ≡ Less
kinds_less (atom c) (atom d) h = absurd (omega arith)
kinds_less (inside c p) (inside d q) h = absurd (omega arith)
kinds_less unit unit h = absurd (omega arith)
kinds_less (left p) (left q) h = absurd (omega arith)
kinds_less (right p) (right q) h = absurd (omega arith)
kinds_less (function n p) (function m q) h = absurd (omega arith)
kinds_less (sealed c n) (sealed d m) h = absurd (omega arith)
kinds_less p q h = nat_less (kind_of p) (kind_of q) h

mutual
  pub before_less : {p q : TypePath} → PathBefore p q → path_order p q ≡ Less
  before_less (by_kind {p = p} {q = q} h) = kinds_less p q h
  before_less (atoms {c = c} {d = d} h) = nat_less c d h
  before_less (inside_name {c = c} {d = d} h) = then_first _ _ (nat_less c d h)
  before_less (inside_path {c = c} h) = then_second _ _ _ (nat_self c) (before_less h)
  before_less (lefts h) = before_less h
  before_less (rights h) = before_less h
  before_less (function_list h) = then_first _ _ (paths_before_less h)
  before_less (function_path {n = n} h) = then_second _ _ _ (paths_self n) (before_less h)
  before_less (sealed_name {c = c} {d = d} h) = then_first _ _ (nat_less c d h)
  before_less (sealed_list {c = c} h) = then_second _ _ _ (nat_self c) (paths_before_less h)

  pub paths_before_less : {n m : Paths} → PathsBefore n m → paths_order n m ≡ Less
  paths_before_less prefix = refl
  paths_before_less (first h) = then_first _ _ (before_less h)
  paths_before_less (rest {p = p} h) = then_second _ _ _ (path_self p) (paths_before_less h)

-- two orderings, the second of which decides if the first is a tie
less_parts : (o p : Ordering) → ordering_then o p ≡ Less → (o ≡ Less) ⊎ ((o ≡ Equal) × (p ≡ Less))
less_parts Less p h = inl refl
less_parts Equal p h = inr (refl, h)
less_parts Greater p h = cc

equal_parts : (o p : Ordering) → ordering_then o p ≡ Equal → (o ≡ Equal) × (p ≡ Equal)
equal_parts Less p h = cc
equal_parts Equal p h = (refl, h)
equal_parts Greater p h = cc

mutual
  pub less_before : (p q : TypePath) → path_order p q ≡ Less → PathBefore p q
  less_before (atom c) (atom d) h = atoms (less_nat c d h)
  less_before (inside c p) (inside d q) h = elim (less_parts _ _ h) [
    | inl e ↦ inside_name (less_nat c d e)
    | inr e ↦ subst (λ x. PathBefore (inside c p) (inside x q)) (nat_cmp-IsAntisymmetric c d e.0) (inside_path (less_before p q e.1))
  ]
  less_before unit unit h = absurd cc
  less_before (left p) (left q) h = lefts (less_before p q h)
  less_before (right p) (right q) h = rights (less_before p q h)
  less_before (function n p) (function m q) h = elim (less_parts _ _ h) [
    | inl e ↦ function_list (less_paths_before n m e)
    | inr e ↦ subst (λ x. PathBefore (function n p) (function x q)) (paths_same n m e.0) (function_path (less_before p q e.1))
  ]
  less_before (sealed c n) (sealed d m) h = elim (less_parts _ _ h) [
    | inl e ↦ sealed_name (less_nat c d e)
    | inr e ↦ subst (λ x. PathBefore (sealed c n) (sealed x m)) (nat_cmp-IsAntisymmetric c d e.0) (sealed_list (less_paths_before n m e.1))
  ]
  less_before p q h = by_kind (less_nat (kind_of p) (kind_of q) h)

  pub less_paths_before : (n m : Paths) → paths_order n m ≡ Less → PathsBefore n m
  less_paths_before none none h = absurd cc
  less_paths_before none (more q m) h = prefix
  less_paths_before (more p n) none h = absurd cc
  less_paths_before (more p n) (more q m) h = elim (less_parts _ _ h) [
    | inl e ↦ first (less_before p q e)
    | inr e ↦ subst (λ x. PathsBefore (more p n) (more x m)) (order_same p q e.0) (rest (less_paths_before n m e.1))
  ]

greater_less : (o : Ordering) → o ≡ Greater → ordering_reverse o ≡ Less
greater_less Less h = cc
greater_less Equal h = cc
greater_less Greater h = refl

less_greater : (o : Ordering) → o ≡ Less → ordering_reverse o ≡ Greater
less_greater Less h = refl
less_greater Equal h = cc
less_greater Greater h = cc

pub path_order-less : (p q : TypePath) → (path_order p q ≡ Less) ↔ PathBefore p q
path_order-less p q = (less_before p q, λ h. before_less h)

pub path_order-equal : (p q : TypePath) → (path_order p q ≡ Equal) ↔ (p ≡ q)
path_order-equal p q = (order_same p q, λ e. subst (λ x. path_order p x ≡ Equal) e (path_self p))

pub path_order-greater : (p q : TypePath) → (path_order p q ≡ Greater) ↔ PathBefore q p
path_order-greater p q = (
  λ h. less_before q p (path_order_total.antisymm q p ∙ greater_less (path_order p q) h),
  λ h. path_order_total.antisymm p q ∙ less_greater (path_order q p) (before_less h),
)

pub list_order-less : (m n : List TypePath) → (list_order m n ≡ Less) ↔ PathsBefore (listed m) (listed n)
list_order-less m n = (λ h. less_paths_before (listed m) (listed n) (paths_order-listed m n ∙ h), λ h. sym (paths_order-listed m n) ∙ paths_before_less h)

same_lists : (m n : List TypePath) → list_order m n ≡ Equal → m ≡ n
same_lists [] [] h = refl
same_lists [] (q ∷ n) h = cc
same_lists (p ∷ m) [] h = cc
same_lists (p ∷ m) (q ∷ n) h = let e = equal_parts (path_order p q) (list_order m n) h in λ i. order_same p q e.0 i ∷ same_lists m n e.1 i

pub list_order-equal : (m n : List TypePath) → (list_order m n ≡ Equal) ↔ (m ≡ n)
list_order-equal m n = (same_lists m n, λ e. subst (λ x. list_order m x ≡ Equal) e (sym (paths_order-listed m m) ∙ paths_self (listed m)))

pub list_order-greater : (m n : List TypePath) → (list_order m n ≡ Greater) ↔ PathsBefore (listed n) (listed m)
list_order-greater m n = (
  λ h. less_paths_before (listed n) (listed m) (paths_order-listed n m ∙ (list_order_total.antisymm n m ∙ greater_less (list_order m n) h)),
  λ h. list_order_total.antisymm m n ∙ less_greater (list_order n m) (sym (paths_order-listed n m) ∙ paths_before_less h),
)
