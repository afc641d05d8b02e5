use Rattle.std.proofs.Common.{◌∙◌, ◌∷◌, ◌++◌, [], Some, ap, subst, sym}
use Rattle.atomic_table.specs.Table.{opening}
use Rattle.cls_turn.specs.Growing.{KeepsGrowing, first_view}
use Rattle.cls_turn.proofs.Steps.{open_step}
use Rattle.cls_turn.proofs.turn.Turn.new.Goals as goal

pub new-requires : goal.new-requires
new-requires g c =
    let G = g.T.Known in
    let items = c.push_reserved.new.self.items in
    subst (λ v. KeepsGrowing G.goes_on G.known (opening (0 ∷ []) items (first_view (G.known v)))) (sym c.of-key.ensures)
    (open_step G.goes_on G.known c.args.value items G.goes_on_reflexive
    (c.push_reserved.ensures.items ∙ ap (λ l. l ++ Some c.args.value ∷ []) c.in_ok-slots.ensures.items))
