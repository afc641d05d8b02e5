use Rattle.std.proofs.Common.{◌≡◌, subst, sym, ap}
use Rattle.cls_path.specs.Paths.{listed, SuitsAll}
use Rattle.cls_library.specs.Arrows.{arrows_of}
use Rattle.cls_library.specs.Libraries.{Component, variances_in}
use Rattle.cls_library.specs.Splits.{arrows_at_places}
use Rattle.cls_library.proofs.Columns.{column-places, column-arrows}
use Rattle.cls_library.proofs.component.Component.family.Goals as goal

pub family_of-requires-clause-column : goal.family_of-requires-clause-column
family_of-requires-clause-column c =
    let inside = c.self.inside in
    let same : listed inside.paths ≡ c.args.self.now.paths = ap (λ (x : Component). x.paths) c.self.view_is in
    rw c.paths.ensures
    (column-places inside.paths inside.columns.items inside.endings.kinds.keys inside.endings.places.items c.self.invariant.0 c.args.self.now.paths same c.args.count c.requires.within c.index.result.now c.index.ensures)

pub family_of-requires-clause-paths : goal.family_of-requires-clause-paths
family_of-requires-clause-paths c =
    let same : listed c.self.inside.paths ≡ c.args.self.now.paths = ap (λ (x : Component). x.paths) c.self.view_is in
    rw c.paths.ensures (subst (SuitsAll (variances_in c.args.taxonomy.now)) (sym same) c.requires.paths)

pub returns : goal.returns
returns c =
    let inside = c.self.inside in
    let same : listed inside.paths ≡ c.args.self.now.paths = ap (λ (x : Component). x.paths) c.self.view_is in
    let arrows : arrows_at_places c.args.count inside.paths c.index.result.now ≡ arrows_of c.args.count c.args.self.now.paths = column-arrows inside.paths inside.columns.items inside.endings.kinds.keys inside.endings.places.items c.self.invariant.0 c.args.self.now.paths same c.args.count c.requires.within c.index.result.now c.index.ensures in
    rw (c.new-2.ensures, ← arrows, ← c.paths.ensures) c.in_ok-family.ensures
