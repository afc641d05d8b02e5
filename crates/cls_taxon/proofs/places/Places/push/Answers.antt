use Rattle.std.proofs.Common.{◌≡◌, ℕ, List, [], ◌∷◌, ◌++◌, length, None, subst, sym, rules}
use Rattle.std.specs.Prelude.{◌==◌}
use Rattle.std.specs.List.{IsDistinct}
use Rattle.cls_taxon.specs.Places.{ArePlaced, IsSet, kept_place, place_in}
use Rattle.cls_taxon.proofs.Tabling.{kept-last, distinct-last}
use Rattle.cls_taxon.proofs.places.Places.push.Goals as goal

pub invariant_of-self-2 : goal.invariant_of-self-2
invariant_of-self-2 c =
    let names = c.self.inside.names.items in
    let old = kept_place c.self.inside.table.items c.self.inside.others in
    let new = kept_place c.set_place.new.table.items c.set_place.new.others in
    let absent : place_in names c.args.name ≡ None = subst (λ (l : List ℕ). place_in l c.args.name ≡ None) (sym c.self.view_is) c.requires in
    let pushed : names ++ c.args.name ∷ [] ≡ c.push.new.self.items = search rules in
    let set : IsSet old new c.args.name (length names) = search rules in (
      subst (λ (names : List ℕ). IsDistinct (λ a b. a == b) names) pushed (distinct-last names c.args.name absent c.self.invariant.0),
      subst (λ (names : List ℕ). ArePlaced names c.set_place.new.table.items c.set_place.new.others) pushed (kept-last names old new c.args.name absent c.self.invariant.1 set),
    )
