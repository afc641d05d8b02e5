use Rattle.std.proofs.Common.{ℕ, ◌≡◌, ◌<◌, List, length, ◌∙◌, ap, arith}
use Rattle.std.specs.Prelude.{map}
use Rattle.std.specs.List.{swap_remove}
use Rattle.std.proofs.lemmas.List.{length-map}
use Rattle.indexmap.proofs.MapLemmas.{swap_remove-default}
use Rattle.indexmap.proofs.SetLemmas.{map-swap_remove}
use Rattle.cls_library.specs.Arrows.{MultiArrow}
use Rattle.cls_check.specs.Deciding.{no_arrow, arrow_of}
use Rattle.cls_check.proofs.Keeping.{dropped_below}
use Rattle.cls_check.proofs.kept.KeptArrows.swap_remove.Goals as goal

pub invariant_of-self : goal.invariant_of-self
invariant_of-self c =
    let size : length (map (arrow_of c.self.inside.arrows) c.self.inside.positions.items) ≡ length c.self.inside.positions.items = length-map c.self.inside.positions.items (arrow_of c.self.inside.arrows) in
    let same : length (map (arrow_of c.self.inside.arrows) c.self.inside.positions.items) ≡ length c.args.self.now = ap (λ (kept : List MultiArrow). length kept) c.self.view_is in
    let here : c.args.i < length c.args.self.now = c.requires in
    dropped_below (length c.self.inside.arrows) c.self.inside.positions.items c.swap_remove.new.self.items c.args.i c.swap_remove.result (omega arith) c.swap_remove.ensures.items c.self.invariant

pub returns : goal.returns
returns c =
    let size : length (map (arrow_of c.self.inside.arrows) c.self.inside.positions.items) ≡ length c.self.inside.positions.items = length-map c.self.inside.positions.items (arrow_of c.self.inside.arrows) in
    let same : length (map (arrow_of c.self.inside.arrows) c.self.inside.positions.items) ≡ length c.args.self.now = ap (λ (kept : List MultiArrow). length kept) c.self.view_is in
    let here : c.args.i < length c.args.self.now = c.requires in
    ap (λ (ps : List ℕ). map (arrow_of c.self.inside.arrows) ps) c.swap_remove.ensures.items
    ∙ (map-swap_remove (arrow_of c.self.inside.arrows) c.self.inside.positions.items c.args.i c.swap_remove.result (omega arith)
    ∙ (swap_remove-default (map (arrow_of c.self.inside.arrows) c.self.inside.positions.items) c.args.i (arrow_of c.self.inside.arrows c.swap_remove.result) no_arrow (omega arith)
    ∙ ap (λ (kept : List MultiArrow). swap_remove kept c.args.i no_arrow) c.self.view_is))
