-- The order of names of a library, and what holds of types by it.
use Rattle.std.proofs.Common.{ℕ, ◌≡◌, ◌↔◌, subst, sym, inl, inr, List, [], ◌∷◌}
use Rattle.std.specs.Prelude.{Contains}
use Rattle.cls_base.proofs.Lists.{Contains-nil, Contains-here, Contains-later, Contains-cases}
use Rattle.cls_base.specs.Types.{ClosedType}
use Rattle.cls_base.specs.Subtyping.{Subtype, reflexivity}
use Rattle.cls_taxon.specs.Orders.{Declared}
use Rattle.cls_taxon.specs.DecisionLaws.{is_below-reflexive, is_below-transitive, is_below-antisymmetric}
use Rattle.cls_path.specs.Paths.{TypePath, Paths, PathLe, InPaths, first_in, later_in, type_of_paths, Suits, SuitsAll, listed}
use Rattle.cls_path.specs.NormalForms.{IsNormalForm}
use Rattle.cls_path.proofs.Completeness.{suits_in}
use Rattle.cls_path.proofs.Equivalence.{to_form, from_form}
use Rattle.cls_path.proofs.Uniqueness.{form_unique}
use Rattle.cls_library.specs.Libraries.{Library, below_in, variances_in}
use Rattle.cls_library.specs.Reaching.{PathLeIn}
use Rattle.cls_check.specs.Checking.{IsSubtype, IsForm}

-- an answer by the library's order of names
pub subtype_by : (l : Library) (d : Declared) → d ≡ l.taxonomy → (s t : ClosedType) {A : Type 0} → A ↔ Subtype (below_in d) (variances_in d) s t → A ↔ IsSubtype l s t
subtype_by l d e s t {A} h = subst (λ (o : Declared). A ↔ Subtype (below_in o) (variances_in o) s t) e h

pub le_by : (l : Library) (d : Declared) → d ≡ l.taxonomy → (p q : TypePath) {A : Type 0} → A ↔ PathLe (below_in d) (variances_in d) p q → A ↔ PathLeIn l p q
le_by l d e p q {A} h = subst (λ (o : Declared). A ↔ PathLe (below_in o) (variances_in o) p q) e h

pub form_by : (l : Library) (d : Declared) → d ≡ l.taxonomy → (t : ClosedType) (n : Paths) → IsNormalForm (below_in d) (variances_in d) t n → IsForm l t n
form_by l d e t n h = subst (λ (o : Declared). IsNormalForm (below_in o) (variances_in o) t n) e h

module _ (l : Library) where
  pub reflexive : (c : ℕ) → below_in l.taxonomy c c
  reflexive c = is_below-reflexive l.taxonomy c

  pub transitive : (c d e : ℕ) → below_in l.taxonomy c d → below_in l.taxonomy d e → below_in l.taxonomy c e
  transitive c d e h k = is_below-transitive l.taxonomy c d e h k

  pub form_down : (t : ClosedType) (n : Paths) → IsForm l t n → IsSubtype l (type_of_paths n) t
  form_down t n h = from_form (below_in l.taxonomy) (variances_in l.taxonomy) reflexive transitive t n h

  pub form_up : (t : ClosedType) (n : Paths) → IsForm l t n → IsSubtype l t (type_of_paths n)
  form_up t n h = to_form (below_in l.taxonomy) (variances_in l.taxonomy) reflexive transitive t n h

  pub one_form : (t : ClosedType) (n m : Paths) → IsForm l t n → IsForm l t m → n ≡ m
  one_form t n m h k = form_unique (below_in l.taxonomy) (variances_in l.taxonomy) reflexive transitive (λ c d a b. is_below-antisymmetric l.taxonomy c d a b) t t n m h k reflexivity reflexivity

-- lists and their paths
pub listed_item : (ps : List TypePath) (q : TypePath) → InPaths (listed ps) q → Contains ps q
listed_item [] q i = elim i [ ]
listed_item (p ∷ ps) _ first_in = Contains-here p ps
listed_item (p ∷ ps) q (later_in i) = Contains-later q p ps (listed_item ps q i)

pub item_listed : (ps : List TypePath) (q : TypePath) → Contains ps q → InPaths (listed ps) q
item_listed [] q c = absurd (Contains-nil q c)
item_listed (p ∷ ps) q c = elim (Contains-cases p ps q c) [ inl e ↦ subst (λ r. InPaths (listed (p ∷ ps)) r) (sym e) first_in | inr d ↦ later_in (item_listed ps q d) ]

pub suits_item : (l : Library) (ps : List TypePath) → SuitsAll (variances_in l.taxonomy) (listed ps) → (q : TypePath) → Contains ps q → Suits (variances_in l.taxonomy) q
suits_item l ps s q c = suits_in (below_in l.taxonomy) (variances_in l.taxonomy) (reflexive l) (transitive l) (listed ps) q s (item_listed ps q c)
