-- The variance that a value of the program says, and the order in which a name is below itself alone.
use Rattle.std.specs.Prelude.{ℕ, ◌≡◌, ◌==◌, Bool, IsTrue}
use Rattle.std.proofs.Common.{rules}
use Rattle.std.specs.Cmp.Rules.{comparing}
use Rattle.cls_base.specs.Taxonomies as taxonomies
use Rattle.cls_base.specs.declared.taxa.Variance.{Variance}
use Rattle.cls_base.specs.declared.taxa.Variance.TheVariants.{Co, Contra, Inv}

abbrev pub variance_of : Variance → taxonomies.Variance
variance_of Co = taxonomies.covariant
variance_of Contra = taxonomies.contravariant
variance_of Inv = taxonomies.invariant

-- Proofs of the laws of `Flat`, kept here since those of an `impl` are cited from specs/.
pub flat_reflexive : (a : ℕ) → IsTrue (a == a)
flat_reflexive a = Prim.search (comparing, rules)

pub flat_antisymmetric : (a b : ℕ) → IsTrue (a == b) → IsTrue (b == a) → a ≡ b
flat_antisymmetric a b p q = Prim.search (comparing, rules)

pub flat_transitive : (a b c : ℕ) → IsTrue (a == b) → IsTrue (b == c) → IsTrue (a == c)
flat_transitive a b c p q = Prim.search (comparing, rules)

pub flat_one_variance : taxonomies.covariant ≡ taxonomies.covariant
flat_one_variance = Prim.search rules

pub flat_one_class : (a b : ℕ) → IsTrue (a == b) → a ≡ b
flat_one_class a b p = Prim.search (comparing, rules)

-- the order of names that a test of two names decides
abbrev pub Below : (ℕ → ℕ → Bool) → ℕ → ℕ → Type 0
Below test a b = IsTrue (test a b)
