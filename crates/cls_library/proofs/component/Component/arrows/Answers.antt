use Rattle.std.proofs.Common.{◌≡◌, length, ap}
use Rattle.cls_base.specs.Lists.{AreBelow}
use Rattle.cls_path.specs.Paths.{listed}
use Rattle.cls_library.specs.Arrows.{arrows_of}
use Rattle.cls_library.specs.Libraries.{Component}
use Rattle.cls_library.specs.Splits.{arrows_at_places}
use Rattle.cls_library.proofs.Columns.{column-below, column-arrows}
use Rattle.cls_library.proofs.component.Component.arrows.Goals as goal

pub new-requires : goal.new-requires
new-requires c =
    let inside = c.self.inside in
    let same : listed inside.paths ≡ c.args.self.now.paths = ap (λ (x : Component). x.paths) c.self.view_is in
    let below : AreBelow (length inside.paths) c.index.result.now = column-below inside.paths inside.columns.items inside.endings.kinds.keys inside.endings.places.items c.self.invariant.0 c.args.self.now.paths same c.args.count c.requires c.index.result.now c.index.ensures in
    rw c.paths.ensures below

pub returns : goal.returns
returns c =
    let inside = c.self.inside in
    let same : listed inside.paths ≡ c.args.self.now.paths = ap (λ (x : Component). x.paths) c.self.view_is in
    let arrows : arrows_at_places c.args.count inside.paths c.index.result.now ≡ arrows_of c.args.count c.args.self.now.paths = column-arrows inside.paths inside.columns.items inside.endings.kinds.keys inside.endings.places.items c.self.invariant.0 c.args.self.now.paths same c.args.count c.requires c.index.result.now c.index.ensures in
    rw (c.new.ensures, c.paths.ensures) arrows
