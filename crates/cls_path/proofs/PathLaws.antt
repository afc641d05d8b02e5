-- The laws of paths and normal forms, put together.
use Rattle.std.proofs.Common.{◌≡◌, ◌⊎◌, inl, inr, refl, sym, ◌∙◌, subst}
use Rattle.std.specs.declared.cmp.Ordering.{Ordering}
use Rattle.std.specs.declared.cmp.Ordering.TheVariants.{Less, Equal, Greater}
use Rattle.cls_base.specs.Taxa.{Below}
use Rattle.cls_base.specs.Subtyping.{Subtype, transitivity}
use Rattle.cls_path.specs.Paths.{TypePath, sealed, Paths, none, more, type_of_paths}
use Rattle.cls_path.specs.NormalForms.{PathBefore, PathsBefore, prefix, first, rest}
use Rattle.cls_path.specs.PathOrder.{path_order}
use Rattle.cls_path.specs.OrderLaws.{order_same, path_order_total}
use Rattle.cls_path.specs.Laws.{PathsAreOrdered, ListsAreOrdered, TypesArePaths, BelowIsTransitive, DerivationsAreDecided, PathsArePrime, FormsAreEquivalent, FormsAreExact}
use Rattle.cls_path.proofs.Sorting.{less_before, path_order-greater, paths_before_less, less_paths_before, paths_self}
use Rattle.cls_path.proofs.Soundness.{le_sound}
use Rattle.cls_path.proofs.Completeness.{complete, above_some, some_above, suits_in}
use Rattle.cls_path.proofs.Derivations.{prime, path_exact}
use Rattle.cls_path.proofs.Equivalence.{to_paths, from_paths, paths_sound, to_form, from_form}
use Rattle.cls_path.proofs.Transitivity.{le_trans}
use Rattle.cls_path.proofs.Uniqueness.{before_trans, not_before_itself, form_unique}

path_total : (p q : TypePath) → PathBefore p q ⊎ (p ≡ q) ⊎ PathBefore q p
path_total p q = step (path_order p q) refl
  where
    step : (o : Ordering) → path_order p q ≡ o → PathBefore p q ⊎ (p ≡ q) ⊎ PathBefore q p
    step Less e = inl (less_before p q e)
    step Equal e = inr (inl (order_same p q e))
    step Greater e = inr (inr ((path_order-greater p q).0 e))

lists_irreflexive : (n : Paths) → PathsBefore n n → ⊥
lists_irreflexive n h = let e : Less ≡ Equal = sym (paths_before_less h) ∙ paths_self n in cc

-- lists are ordered as they are under one name
lists_transitive : (n m l : Paths) → PathsBefore n m → PathsBefore m l → PathsBefore n l
lists_transitive n m l h k = less_paths_before n l (path_order_total.trans (sealed 0 n) (sealed 0 m) (sealed 0 l) (paths_before_less h) (paths_before_less k))

lists_total : (n m : Paths) → PathsBefore n m ⊎ (n ≡ m) ⊎ PathsBefore m n
lists_total none none = inr (inl refl)
lists_total none (more q m) = inl prefix
lists_total (more p n) none = inr (inr prefix)
lists_total (more p n) (more q m) = elim (path_total p q) [
  | inl h ↦ inl (first h)
  | inr r ↦ elim r [
    | inl e ↦ elim (lists_total n m) [
      | inl h ↦ inl (subst (λ x. PathsBefore (more p n) (more x m)) e (rest h))
      | inr s ↦ elim s [
        | inl f ↦ inr (inl (λ i. more (e i) (f i)))
        | inr h ↦ inr (inr (subst (λ x. PathsBefore (more x m) (more p n)) e (rest h)))
      ]
    ]
    | inr h ↦ inr (inr (first h))
  ]
]

pub paths_are_ordered : PathsAreOrdered
paths_are_ordered = record { irreflexive = not_before_itself; transitive = before_trans; total = path_total }

pub lists_are_ordered : ListsAreOrdered
lists_are_ordered = record { irreflexive = lists_irreflexive; transitive = lists_transitive; total = lists_total }

pub types_are_paths : TypesArePaths
types_are_paths test variance o t = (to_paths (Below test) variance o.reflexive o.transitive t, from_paths (Below test) variance o.reflexive o.transitive t)

pub below_is_transitive : BelowIsTransitive
below_is_transitive test variance o p q r h k = le_trans (Below test) variance o.reflexive o.transitive q p r h k

pub derivations_are_decided : DerivationsAreDecided
derivations_are_decided test variance o s t = ((λ d. complete (Below test) variance o.reflexive o.transitive d), (λ h. paths_sound (Below test) variance o.reflexive o.transitive s t h))

pub paths_are_prime : PathsArePrime
paths_are_prime test variance o n q s t = (
  λ d. let r = above_some (Below test) variance o.reflexive o.transitive n q ((prime (Below test) variance o.reflexive o.transitive n q s t).0 d) in
      (r.0, r.1, le_sound (Below test) variance r.2 (suits_in (Below test) variance o.reflexive o.transitive n r.0 s r.1) t),
  λ r. (prime (Below test) variance o.reflexive o.transitive n q s t).1
      (some_above (Below test) variance o.reflexive o.transitive n r.0 q r.1 ((path_exact (Below test) variance o.reflexive o.transitive r.0 q (suits_in (Below test) variance o.reflexive o.transitive n r.0 s r.1) t).1 r.2)),
)

pub forms_are_equivalent : FormsAreEquivalent
forms_are_equivalent test variance o t n h = (to_form (Below test) variance o.reflexive o.transitive t n h, from_form (Below test) variance o.reflexive o.transitive t n h)

pub forms_are_exact : FormsAreExact
forms_are_exact test variance o s t n m h k = (
  λ d. form_unique (Below test) variance o.reflexive o.transitive o.antisymmetric s t n m h k d.0 d.1,
  λ e. (
    transitivity (to_form (Below test) variance o.reflexive o.transitive s n h) (subst (λ l. Subtype (Below test) variance (type_of_paths l) t) (sym e) (from_form (Below test) variance o.reflexive o.transitive t m k)),
    transitivity (to_form (Below test) variance o.reflexive o.transitive t m k) (subst (λ l. Subtype (Below test) variance (type_of_paths l) s) e (from_form (Below test) variance o.reflexive o.transitive s n h)),
  ),
)
