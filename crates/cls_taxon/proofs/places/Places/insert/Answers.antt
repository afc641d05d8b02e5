use Rattle.std.proofs.Common.{◌≡◌, List, ℕ, true, false, OnOk, sym, ap, ◌∙◌, subst}
use Rattle.std.specs.Option.{is_some}
use Rattle.cls_taxon.specs.Places.{place_in}
use Rattle.cls_taxon.proofs.Tabling.{stays, goes-last}
use Rattle.cls_taxon.proofs.places.Places.insert.Goals as goal

pub returns-then-is_some : goal.returns-then-is_some
returns-then-is_some c =
    let some : is_some (place_in c.args.self.now c.args.name) ≡ true = ap is_some (sym c.find.ensures) ∙ sym c.is_some.ensures ∙ c.if-is_some.true in
    record { ok = stays c.args.self.now c.args.name some }

pub returns : goal.returns
returns c =
    let none : is_some (place_in c.args.self.now c.args.name) ≡ false = ap is_some (sym c.find.ensures) ∙ sym c.is_some.ensures ∙ c.if-is_some.false in
    record { ok = subst (λ (names : List ℕ). OnOk c.push.result (c.push.new.self ≡ names)) (goes-last c.args.self.now c.args.name none) c.push.ensures }
