use Rattle.std.proofs.Common.{ℕ, ◌≡◌, ◌<◌, List, Some, get_or, length, sym, ap, subst, arith}
use Rattle.std.specs.Prelude.{map, slice_get}
use Rattle.std.proofs.lemmas.List.{length-map}
use Rattle.cls_base.proofs.Lists.{AreBelow-at}
use Rattle.cls_library.specs.Arrows.{MultiArrow}
use Rattle.cls_check.specs.Deciding.{arrow_of}
use Rattle.cls_check.proofs.Keeping.{kept_at}
use Rattle.cls_check.proofs.kept.KeptArrows.get.Goals as goal

pub get-requires : goal.get-requires
get-requires c =
    let size : length (map (arrow_of c.self.inside.arrows) c.self.inside.positions.items) ≡ length c.self.inside.positions.items = length-map c.self.inside.positions.items (arrow_of c.self.inside.arrows) in
    let same : length (map (arrow_of c.self.inside.arrows) c.self.inside.positions.items) ≡ length c.args.self.now = ap (λ (kept : List MultiArrow). length kept) c.self.view_is in
    subst (λ (ps : List ℕ). get_or ps c.args.i 0 < length c.self.inside.arrows) (sym c.deref.ensures)
    (AreBelow-at (length c.self.inside.arrows) c.self.inside.positions.items c.args.i c.self.invariant (omega arith))

pub returns : goal.returns
returns c =
    let size : length (map (arrow_of c.self.inside.arrows) c.self.inside.positions.items) ≡ length c.self.inside.positions.items = length-map c.self.inside.positions.items (arrow_of c.self.inside.arrows) in
    let same : length (map (arrow_of c.self.inside.arrows) c.self.inside.positions.items) ≡ length c.args.self.now = ap (λ (kept : List MultiArrow). length kept) c.self.view_is in
    subst (λ (kept : List MultiArrow). slice_get kept c.args.i ≡ Some c.get.result) c.self.view_is
    (kept_at c.self.inside.arrows c.self.inside.positions.items c.args.i c.get.result (omega arith)
    (subst (λ (ps : List ℕ). slice_get c.self.inside.arrows (get_or ps c.args.i 0) ≡ Some c.get.result) c.deref.ensures c.get.ensures))
