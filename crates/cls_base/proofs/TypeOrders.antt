-- Types of one order are equal.
use Rattle.std.proofs.Common.{◌≡◌, ◌↔◌, refl, ap, ◌∙◌, ℕ, subst, arith}
use Rattle.std.proofs.lemmas.Bool.Decides.{nat_tests}
use Rattle.std.specs.declared.cmp.Ordering.{Ordering}
use Rattle.std.specs.declared.cmp.Ordering.TheVariants.{Less, Equal, Greater}
use Rattle.std.specs.Ordering.{nat_cmp, ordering_then}
use Rattle.std.specs.FinMap.{nat_cmp-IsAntisymmetric}
use Rattle.cls_base.specs.Types as types
use Rattle.cls_base.specs.Types.{ClosedType, constructor, product, arrow, meet}
use Rattle.cls_base.specs.TypeOrder.{order_of}

then_parts : (p q : Ordering) → ordering_then p q ≡ Equal → (p ≡ Equal) × (q ≡ Equal)
then_parts Less q h = cc
then_parts Equal q h = (refl, h)
then_parts Greater q h = cc

same_of : (s t : ClosedType) → order_of s t ≡ Equal → s ≡ t
same_of types.omega types.omega h = refl
same_of (constructor c s) (constructor d t) h =
    let p = then_parts (nat_cmp c d) (order_of s t) h in λ i. constructor (nat_cmp-IsAntisymmetric c d p.0 i) (same_of s t p.1 i)
same_of (product s t) (product u v) h = let p = then_parts (order_of s u) (order_of t v) h in λ i. product (same_of s u p.0 i) (same_of t v p.1 i)
same_of (arrow s t) (arrow u v) h = let p = then_parts (order_of s u) (order_of t v) h in λ i. arrow (same_of s u p.0 i) (same_of t v p.1 i)
same_of (meet s t) (meet u v) h = let p = then_parts (order_of s u) (order_of t v) h in λ i. meet (same_of s u p.0 i) (same_of t v p.1 i)
same_of _ _ h = cc

nat_cmp-self : (c : ℕ) → nat_cmp c c ≡ Equal
nat_cmp-self c = grind (arith, nat_tests)

both_equal : (p q : Ordering) → p ≡ Equal → q ≡ Equal → ordering_then p q ≡ Equal
both_equal p q h k = ap (λ o. ordering_then o q) h ∙ k

self_of : (t : ClosedType) → order_of t t ≡ Equal
self_of types.omega = refl
self_of (constructor c t) = both_equal _ _ (nat_cmp-self c) (self_of t)
self_of (product s t) = both_equal _ _ (self_of s) (self_of t)
self_of (arrow s t) = both_equal _ _ (self_of s) (self_of t)
self_of (meet s t) = both_equal _ _ (self_of s) (self_of t)

pub order_of-equal : (s t : ClosedType) → (order_of s t ≡ Equal) ↔ (s ≡ t)
order_of-equal s t = (same_of s t, λ e. subst (λ u. order_of s u ≡ Equal) e (self_of s))
