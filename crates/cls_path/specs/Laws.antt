-- What holds of all paths and normal forms.
use Rattle.std.specs.Prelude.{ℕ, Bool, ◌≡◌, ◌↔◌}
use Rattle.cls_base.specs.Orders.{IsStrictTotalOrder}
use Rattle.cls_base.specs.Types.{ClosedType}
use Rattle.cls_base.specs.Taxonomies.{Variance}
use Rattle.cls_base.specs.Taxa.{Below}
use Rattle.cls_base.specs.Subtyping.{Subtype}
use Rattle.cls_path.specs.Paths.{TypePath, Paths, PathLe, PathsLe, InPaths, type_of_path, type_of_paths, paths_of, Suits, SuitsAll}
use Rattle.cls_path.specs.NormalForms.{PathBefore, PathsBefore, IsNormalForm}

-- below is a partial order of names
pub record IsPartialOrder (below : ℕ → ℕ → Type 0) : Type 0 where
  pub reflexive : (c : ℕ) → below c c
  pub transitive : (c d e : ℕ) → below c d → below d e → below c e
  pub antisymmetric : (c d : ℕ) → below c d → below d c → c ≡ d

-- the order of paths is strict and total
abbrev pub PathsAreOrdered : Type 0
PathsAreOrdered = IsStrictTotalOrder TypePath PathBefore

-- the order of lists of paths is strict and total
abbrev pub ListsAreOrdered : Type 0
ListsAreOrdered = IsStrictTotalOrder Paths PathsBefore

-- each of the two types is a subtype of the other
abbrev pub AreEquivalent : (ℕ → ℕ → Type 0) → (ℕ → Variance) → ClosedType → ClosedType → Type 0
AreEquivalent below variance s t = Subtype below variance s t × Subtype below variance t s

-- a type is equivalent to the intersection of its paths
abbrev pub TypesArePaths : Type 0
TypesArePaths =
    (test : ℕ → ℕ → Bool) (variance : ℕ → Variance) → IsPartialOrder (Below test) → (t : ClosedType)
    → AreEquivalent (Below test) variance t (type_of_paths (paths_of variance t))

-- what is below is transitive, though no case of it says so
abbrev pub BelowIsTransitive : Type 0
BelowIsTransitive =
    (test : ℕ → ℕ → Bool) (variance : ℕ → Variance) → IsPartialOrder (Below test) → (p q r : TypePath)
    → PathLe (Below test) variance p q → PathLe (Below test) variance q r → PathLe (Below test) variance p r

-- derivations are the order of the lists of paths
abbrev pub DerivationsAreDecided : Type 0
DerivationsAreDecided =
    (test : ℕ → ℕ → Bool) (variance : ℕ → Variance) → IsPartialOrder (Below test) → (s t : ClosedType)
    → Subtype (Below test) variance s t ↔ PathsLe (Below test) variance (paths_of variance s) (paths_of variance t)

-- an intersection of paths is below a path if and only if one of them is
abbrev pub PathsArePrime : Type 0
PathsArePrime =
    (test : ℕ → ℕ → Bool) (variance : ℕ → Variance) → IsPartialOrder (Below test) → (n : Paths) (q : TypePath)
    → SuitsAll variance n → Suits variance q
    → Subtype (Below test) variance (type_of_paths n) (type_of_path q)
    ↔ ((p : TypePath) × InPaths n p × Subtype (Below test) variance (type_of_path p) (type_of_path q))

-- a type is equivalent to its normal form
abbrev pub FormsAreEquivalent : Type 0
FormsAreEquivalent =
    (test : ℕ → ℕ → Bool) (variance : ℕ → Variance) → IsPartialOrder (Below test) → (t : ClosedType) (n : Paths)
    → IsNormalForm (Below test) variance t n → AreEquivalent (Below test) variance t (type_of_paths n)

-- each type has a normal form
abbrev pub FormsExist : Type 0
FormsExist =
    (test : ℕ → ℕ → Bool) (variance : ℕ → Variance) → IsPartialOrder (Below test)
    → ((c d : ℕ) → Below test c d → variance c ≡ variance d)
    → (t : ClosedType) → (n : Paths) × IsNormalForm (Below test) variance t n

-- two types are equivalent if and only if their normal forms are equal
abbrev pub FormsAreExact : Type 0
FormsAreExact =
    (test : ℕ → ℕ → Bool) (variance : ℕ → Variance) → IsPartialOrder (Below test)
    → (s t : ClosedType) (n m : Paths)
    → IsNormalForm (Below test) variance s n → IsNormalForm (Below test) variance t m
    → AreEquivalent (Below test) variance s t ↔ (n ≡ m)
