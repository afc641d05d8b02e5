-- The leads of a finder, of which one has another hint.
use Rattle.std.proofs.Common.{◌≡◌, ℕ, zero, suc, ◌<◌, List, [], ◌∷◌, Some, length, map, get_or, sym, subst, ap, ◌∙◌, arith}
use Rattle.std.specs.Prelude.{All, slice_get, slice_set}
use Rattle.std.proofs.lemmas.List.{length-map}
use Rattle.std.proofs.lemmas.List.Elements.{All-set}
use Rattle.std.proofs.Math.Seq.{map-set_same}
use Rattle.cls_base.specs.Taxonomies.{Variance}
use Rattle.cls_library.specs.declared.lead.Lead.{Lead}
use Rattle.cls_path.specs.Paths.{Suits, SuitsAll, listed}
use Rattle.cls_library.specs.Leads.{IsLead, path_of}
use Rattle.cls_library.specs.Libraries.{Library}

pub lead-at : (l : Library) (leads : List Lead) (i : ℕ) (lead : Lead) → All (IsLead l) leads → i < length leads → lead ≡ get_or leads i lead → IsLead l lead
lead-at l leads i lead a w e = subst (λ (x : Lead). IsLead l x) (sym e) (a i lead w)

pub suits-lead : (variance : ℕ → Variance) (leads : List Lead) (i : ℕ) (lead : Lead) → SuitsAll variance (listed (map path_of leads)) → i < length leads → lead ≡ get_or leads i lead → Suits variance (path_of lead)
suits-lead variance [] i lead h w e = absurd (omega arith)
suits-lead variance (x ∷ leads) zero lead h w e = subst (λ (y : Lead). Suits variance (path_of y)) (sym e) h.0
suits-lead variance (x ∷ leads) (suc i) lead h w e = suits-lead variance leads i lead h.1 (omega arith) e

pub path-at : (leads : List Lead) (i : ℕ) (lead : Lead) → i < length leads → lead ≡ get_or leads i lead → slice_get (map path_of leads) i ≡ Some (path_of lead)
path-at [] i lead w e = absurd (omega arith)
path-at (x ∷ leads) zero lead w e = ap (λ (y : Lead). Some (path_of y)) (sym e)
path-at (x ∷ leads) (suc i) lead w e = path-at leads i lead (omega arith) e

-- the lead with the number i has another hint
module _ (leads : List Lead) (i : ℕ) (old new : Lead) (moved : new ≡ record old { hint = new.hint }) where
  pub leads-moved : (l : Library) → IsLead l old → All (IsLead l) leads → All (IsLead l) (slice_set leads i new)
  leads-moved l h all = All-set (IsLead l) leads i new (subst (λ (x : Lead). IsLead l x) (sym moved) (record { sought = h.sought; entries = h.entries })) all

  pub paths-moved : old ≡ get_or leads i old → map path_of (slice_set leads i new) ≡ map path_of leads
  paths-moved at = map-set_same path_of leads i new old (ap path_of moved ∙ ap path_of at)

pub paths-length : (leads others : List Lead) → map path_of leads ≡ map path_of others → length leads ≡ length others
paths-length leads others same = sym (length-map leads path_of) ∙ (ap length same ∙ length-map others path_of)
