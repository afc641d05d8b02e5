-- Steps of terms that lack some arguments.
use Rattle.std.proofs.Common.{◌≡◌, ℕ, ◌+◌, ◌<◌, List, [], ◌∷◌, ◌++◌, length, refl, sym, ap, ◌∙◌, subst, arith}
use Rattle.cls_base.specs.Terms.{Applicative, apply, length_of}
use Rattle.cls_term.specs.Banks.{at, term_by}
use Rattle.cls_base.specs.Lists.{AreBelow}
use Rattle.cls_enum.specs.PartialTerms.{partial_term, IsAsBefore, IsPartial}
use Rattle.cls_enum.specs.declared.partial_term.PartialTerm.{PartialTerm}
use Rattle.cls_enum.proofs.Additions.{term_by-push, AreBelow-push}

pub before-refl : (b : PartialTerm) → IsAsBefore b b
before-refl b = record { head = refl; args = refl; occurrences = refl }

pub before-trans : (a b c : PartialTerm) → IsAsBefore a b → IsAsBefore b c → IsAsBefore a c
before-trans a b c h k = record { head = k.head ∙ h.head; args = k.args ∙ h.args; occurrences = k.occurrences ∙ h.occurrences }

pub before-term : (ts : List Applicative) (a b : PartialTerm) → IsAsBefore a b → partial_term ts b ≡ partial_term ts a
before-term ts a b h = λ i. term_by ts (h.head i, h.args i)

pub before-partial : (ts : List Applicative) (a b : PartialTerm) → IsAsBefore a b → IsPartial ts a → IsPartial ts b
before-partial ts a b h k = record {
  below = subst (λ (xs : List ℕ). AreBelow (length ts) xs) (sym h.args) k.below;
  counted = h.occurrences ∙ k.counted ∙ ap length_of (sym (before-term ts a b h));
}

-- one more argument
pub next-term : (ts : List Applicative) (a b : PartialTerm) (n : ℕ) → b.head ≡ a.head → b.args.items ≡ a.args.items ++ n ∷ [] → partial_term ts b ≡ apply (partial_term ts a) (at ts n)
next-term ts a b n p q = (λ i. term_by ts (p i, q i)) ∙ term_by-push ts a.head a.args.items n

pub next-partial : (ts : List Applicative) (a b : PartialTerm) (n : ℕ) → IsPartial ts a → n < length ts → b.head ≡ a.head → b.args.items ≡ a.args.items ++ n ∷ [] → b.occurrences ≡ a.occurrences + length_of (at ts n) → IsPartial ts b
next-partial ts a b n h l p q r = record {
  below = subst (λ (xs : List ℕ). AreBelow (length ts) xs) (sym q) (AreBelow-push (length ts) a.args.items n h.below l);
  counted = omega (arith, r, h.counted, ap length_of (next-term ts a b n p q));
}
