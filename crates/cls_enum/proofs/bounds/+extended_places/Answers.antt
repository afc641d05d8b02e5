use Rattle.std.proofs.Common.{List, refl, subst}
use Rattle.cls_enum.specs.CellTables.{cell_of}
use Rattle.cls_enum.specs.Plans.{AreBounds}
use Rattle.cls_enum.specs.declared.plan.Place.{Place}
use Rattle.cls_enum.proofs.BoundLaws.{extended-first}
use Rattle.cls_enum.proofs.bounds.+extended_places.Goals as goal

pub returns-clause-bounds : goal.returns-clause-bounds
returns-clause-bounds t c = λ b cost w h.
    let p = c.in-Some.place.now in
    let q : Place = record { node = p.node; least = c.in_ok-least.least } in
    let k = subst (λ (ps : List Place). AreBounds b cost c.args.size ps) c.in-Some.ensures.cases.0 h in
    rw c.in_ok-insert.ensures.items (extended-first b cost c.args.size (cell_of c.args.bank.now c.args.cells.now) p q c.in-Some.others.now c.in_ok-new.new.items w k c.in_ok-least.ensures refl c.in_ok-new.ensures.nodes (c.in_ok-new.ensures.bounds b cost w k.2))
