-- Where a type has a covariant name, it has one that is below it, and the other way round if that name stands alone.
use Rattle.std.proofs.Common.{◌≡◌, refl, subst, ℕ, List, [], ◌∷◌, inl, inr, Bor}
use Rattle.std.specs.Prelude.{◌==◌}
use Rattle.cls_base.specs.Types as types
use Rattle.cls_base.specs.Types.{ClosedType, constructor, product, arrow, meet}
use Rattle.cls_base.specs.Taxonomies.{Variance, covariant}
use Rattle.cls_base.specs.Taxa.{Below, flat_one_class, flat_reflexive}
use Rattle.cls_base.specs.Ty.{type_of}
use Rattle.cls_base.specs.declared.ty.Ty.{Ty}
use Rattle.cls_path.specs.Paths.{atom, SomeLe, paths_of}
use Rattle.cls_norm.specs.Subtypes.{paths_of_all}
use Rattle.cls_norm.proofs.Steps.{to_append_first, to_append_second, from_append}
use Rattle.cls_norm.proofs.Parts.{name_at}
use Rattle.cls_norm.proofs.Uppers.{nowhere, other_not_named}

-- the names of the order in which each is below itself alone, all covariant
abbrev Alone : ℕ → ℕ → Type 0
Alone = Below (λ a b. a == b)

abbrev even : ℕ → Variance
even c = covariant

module _ (below : ℕ → ℕ → Type 0) (variance : ℕ → Variance) (reflexive : (c : ℕ) → below c c) (one_variance : (c d : ℕ) → below c d → variance c ≡ variance d) (d : ℕ) (co : variance d ≡ covariant) where
  same_in : (s : ClosedType) → SomeLe Alone even (paths_of even s) (atom d) → SomeLe below variance (paths_of variance s) (atom d)
  same_in types.omega h = absurd (nowhere Alone even (atom d) h)
  same_in (constructor c s) h =
      let e : c ≡ d = flat_one_class c d ((name_at Alone even (λ a b l. refl) c d s refl).1 h) in
      (name_at below variance one_variance c d s co).0 (subst (λ x. below c x) e (reflexive c))
  same_in (product s t) h = absurd (other_not_named Alone even (product s t) tt d h)
  same_in (arrow s t) h = absurd (other_not_named Alone even (arrow s t) tt d h)
  same_in (meet s t) h = elim (from_append Alone even (paths_of even s) (paths_of even t) (atom d) h) [
    | inl a ↦ to_append_first below variance (paths_of variance s) (paths_of variance t) (atom d) (same_in s a)
    | inr b ↦ to_append_second below variance (paths_of variance s) (paths_of variance t) (atom d) (same_in t b)
  ]

  pub same_in_all : (ts : List (Bor Ty)) → SomeLe Alone even (paths_of_all even ts) (atom d) → SomeLe below variance (paths_of_all variance ts) (atom d)
  same_in_all [] h = absurd (nowhere Alone even (atom d) h)
  same_in_all (t ∷ ts) h = elim (from_append Alone even (paths_of even (type_of t.now)) (paths_of_all even ts) (atom d) h) [
    | inl a ↦ to_append_first below variance (paths_of variance (type_of t.now)) (paths_of_all variance ts) (atom d) (same_in (type_of t.now) a)
    | inr b ↦ to_append_second below variance (paths_of variance (type_of t.now)) (paths_of_all variance ts) (atom d) (same_in_all ts b)
  ]

  -- and below a name that stands alone there is only that name
  alone_in : ((c : ℕ) → below c d → c ≡ d) → (s : ClosedType) → SomeLe below variance (paths_of variance s) (atom d) → SomeLe Alone even (paths_of even s) (atom d)
  alone_in f types.omega h = absurd (nowhere below variance (atom d) h)
  alone_in f (constructor c s) h =
      let e : c ≡ d = f c ((name_at below variance one_variance c d s co).1 h) in
      (name_at Alone even (λ a b l. refl) c d s refl).0 (subst (λ x. Alone c x) e (flat_reflexive c))
  alone_in f (product s t) h = absurd (other_not_named below variance (product s t) tt d h)
  alone_in f (arrow s t) h = absurd (other_not_named below variance (arrow s t) tt d h)
  alone_in f (meet s t) h = elim (from_append below variance (paths_of variance s) (paths_of variance t) (atom d) h) [
    | inl a ↦ to_append_first Alone even (paths_of even s) (paths_of even t) (atom d) (alone_in f s a)
    | inr b ↦ to_append_second Alone even (paths_of even s) (paths_of even t) (atom d) (alone_in f t b)
  ]

  pub alone_in_all : ((c : ℕ) → below c d → c ≡ d) → (ts : List (Bor Ty)) → SomeLe below variance (paths_of_all variance ts) (atom d) → SomeLe Alone even (paths_of_all even ts) (atom d)
  alone_in_all f [] h = absurd (nowhere below variance (atom d) h)
  alone_in_all f (t ∷ ts) h = elim (from_append below variance (paths_of variance (type_of t.now)) (paths_of_all variance ts) (atom d) h) [
    | inl a ↦ to_append_first Alone even (paths_of even (type_of t.now)) (paths_of_all even ts) (atom d) (alone_in f (type_of t.now) a)
    | inr b ↦ to_append_second Alone even (paths_of even (type_of t.now)) (paths_of_all even ts) (atom d) (alone_in_all f ts b)
  ]
