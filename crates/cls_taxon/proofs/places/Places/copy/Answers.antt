use Rattle.std.proofs.Common.{◌≡◌, ℕ, List, subst, sym, rules}
use Rattle.std.specs.Prelude.{◌==◌}
use Rattle.std.specs.List.{IsDistinct}
use Rattle.std.proofs.lemmas.Map.Entries.{entries_from_clone}
use Rattle.cls_taxon.proofs.places.Places.copy.Goals as goal

pub invariant_of-result : goal.invariant_of-result
invariant_of-result c =
    let names : c.in_ok-from_slice.field-0.items ≡ c.self.inside.names.items = search rules in
    let table : c.in_ok-from_slice-2.field-0.items ≡ c.self.inside.table.items = search rules in
    let others : c.in_ok-clone.field-0.entries ≡ c.self.inside.others.entries = entries_from_clone _ _ (λ x y h. h) (λ v w h. h) _ _ c.in_ok-clone.ensures.cases in (
      subst (λ (names : List ℕ). IsDistinct (λ a b. a == b) names) (sym names) c.self.invariant.0,
      λ a. let kept = c.self.invariant.1 a in cc,
    )
