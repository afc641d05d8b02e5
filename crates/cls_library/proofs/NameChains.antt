-- Subtyping and typing by one order of names are those by another one that says the same.
use Rattle.std.proofs.Common.{ℕ}
use Rattle.cls_base.specs.Types.{ClosedType}
use Rattle.cls_base.specs.Subtyping.{Subtype, reflexivity, transitivity, to_omega, omega_arrow, meet_left, meet_right, to_meet, arrow_meet, arrows, covariants, covariant_meet, contravariants, invariants, products, product_meet}
use Rattle.cls_base.specs.Taxonomies.{Variance, Chain}
use Rattle.cls_base.specs.Terms.{Applicative}
use Rattle.cls_base.specs.Typing.{HasType, by_instance, by_application, by_intersection, by_subsumption}
use Rattle.cls_taxon.specs.DecisionLaws.{lookups_are_chains}
use Rattle.cls_library.specs.Laws.{SubtypingIsByChains, TypingIsByChains}
use Rattle.cls_library.specs.Libraries.{below_in, variances_in}
use Rattle.cls_library.specs.Typing.{IsInstanceOf}
use Rattle.cls_library.proofs.TypingLaws.{readings-agree}

module _ (R S : ℕ → ℕ → Type 0) (variance : ℕ → Variance) (f : (a b : ℕ) → R a b → S a b) where
  subtype-map : {s t : ClosedType} → Subtype R variance s t → Subtype S variance s t
  subtype-map reflexivity = reflexivity
  subtype-map (transitivity h k) = transitivity (subtype-map h) (subtype-map k)
  subtype-map to_omega = to_omega
  subtype-map omega_arrow = omega_arrow
  subtype-map meet_left = meet_left
  subtype-map meet_right = meet_right
  subtype-map (to_meet h k) = to_meet (subtype-map h) (subtype-map k)
  subtype-map arrow_meet = arrow_meet
  subtype-map (arrows h k) = arrows (subtype-map h) (subtype-map k)
  subtype-map (covariants {c = c} {d = d} v w b h) = covariants v w (f c d b) (subtype-map h)
  subtype-map (covariant_meet v) = covariant_meet v
  subtype-map (contravariants {c = c} {d = d} v w b h) = contravariants v w (f c d b) (subtype-map h)
  subtype-map (invariants {c = c} {d = d} v w b h k) = invariants v w (f c d b) (subtype-map h) (subtype-map k)
  subtype-map (products h k) = products (subtype-map h) (subtype-map k)
  subtype-map product_meet = product_meet

  module _ (instance : ℕ → ClosedType → Type 0) where
    type-map : {e : Applicative} {t : ClosedType} → HasType R variance instance e t → HasType S variance instance e t
    type-map (by_instance i) = by_instance i
    type-map (by_application h k) = by_application (type-map h) (type-map k)
    type-map (by_intersection h k) = by_intersection (type-map h) (type-map k)
    type-map (by_subsumption h k) = by_subsumption (type-map h) (subtype-map k)

pub subtyping-is-by-chains : SubtypingIsByChains
subtyping-is-by-chains d order s t = (
  subtype-map (Chain d.pairs) (below_in d) (variances_in d) (λ a b. (lookups_are_chains d order a b).1),
  subtype-map (below_in d) (Chain d.pairs) (variances_in d) (λ a b. (lookups_are_chains d order a b).0),
)

pub typing-is-by-chains : TypingIsByChains
typing-is-by-chains d order kinds schemas l is e t =
    let same = readings-agree d kinds schemas l is e t in
    let typed = IsInstanceOf kinds schemas in (
      λ h. same.0 (type-map (Chain d.pairs) (below_in d) (variances_in d) (λ a b. (lookups_are_chains d order a b).1) typed h),
      λ h. type-map (below_in d) (Chain d.pairs) (variances_in d) (λ a b. (lookups_are_chains d order a b).0) typed (same.1 h),
    )
