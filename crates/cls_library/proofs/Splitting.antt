-- How many leading arrows paths have.
use Rattle.std.proofs.Common.{◌≡◌, ℕ, ◌+◌, ◌<◌, ◌≤◌, max, min, List, ◌∷◌, length, drop, get_or, refl, sym, ap, ◌∙◌, arith}
use Rattle.std.proofs.lemmas.List.{drop_more, drop_all}
use Rattle.cls_base.specs.Limits.{max_arity}
use Rattle.cls_base.specs.Taxonomies.{Variance}
use Rattle.cls_base.specs.Types.{ClosedType}
use Rattle.cls_path.specs.Paths.{TypePath, Paths, PathLe, atoms, inside_atom, insides, units, left_unit, right_unit, lefts, rights, functions, contravariants, invariants, SomeLe, here, there, PathsLe, empty, each, paths_of, listed}
use Rattle.cls_path.specs.NormalForms.{IsNormalForm}
use Rattle.cls_library.specs.Arrows.{leading_arrows, arity_of}

module _ (below : ℕ → ℕ → Type 0) (variance : ℕ → Variance) where
  -- paths that are below each other begin with equally many arrows
  pub leading-le : {p q : TypePath} → PathLe below variance p q → leading_arrows p ≡ leading_arrows q
  leading-le (atoms h) = refl
  leading-le (inside_atom h) = refl
  leading-le (insides h k) = refl
  leading-le units = refl
  leading-le left_unit = refl
  leading-le right_unit = refl
  leading-le (lefts h) = refl
  leading-le (rights h) = refl
  leading-le (functions h k) = ap (λ n. n + 1) (leading-le k)
  leading-le (contravariants v w h k) = refl
  leading-le (invariants v w h k l) = refl

  some-arity : {n : Paths} {q : TypePath} → SomeLe below variance n q → leading_arrows q ≤ arity_of n
  some-arity (here h) = let e = leading-le h in omega arith
  some-arity (there s) = let l = some-arity s in omega arith

  pub arity-le : {n m : Paths} → PathsLe below variance n m → arity_of m ≤ arity_of n
  arity-le empty = omega arith
  arity-le (each s h) = let a = some-arity s in let b = arity-le h in omega arith

  -- a normal form takes as many arguments as the paths of its type
  pub arity-form : (t : ClosedType) (n : Paths) → IsNormalForm below variance t n → arity_of n ≡ arity_of (paths_of variance t)
  arity-form t n h = let a = arity-le h.lower in let b = arity-le h.upper in omega arith

-- the greatest number of leading arrows, path after path
pub arity-more : (ps : List TypePath) (i : ℕ) (p : TypePath) (a w : ℕ) → i < length ps → p ≡ get_or ps i p → max a (min (max_arity + 1) (arity_of (listed (drop i ps)))) ≡ w → max (max (min (max_arity + 1) (leading_arrows p)) a) (min (max_arity + 1) (arity_of (listed (drop (i + 1) ps)))) ≡ w
arity-more ps i p a w l is h =
    let e : arity_of (listed (drop i ps)) ≡ max (leading_arrows p) (arity_of (listed (drop (i + 1) ps))) = ap (λ x. arity_of (listed x)) (drop_more ps i p l ∙ ap (λ q. q ∷ drop (i + 1) ps) (sym is)) in
    omega arith

pub arity-all : (ps : List TypePath) (i a w : ℕ) → length ps ≤ i → max a (min (max_arity + 1) (arity_of (listed (drop i ps)))) ≡ w → a ≡ w
arity-all ps i a w l h = let e : arity_of (listed (drop i ps)) ≡ 0 = ap (λ x. arity_of (listed x)) (drop_all i ps l) in omega arith
