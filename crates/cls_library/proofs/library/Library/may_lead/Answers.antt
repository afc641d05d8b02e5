use Rattle.std.proofs.Common.{◌≡◌, [], subst, ap}
use Rattle.cls_path.specs.Paths.{Paths}
use Rattle.cls_library.specs.Arrows.{arrows_of}
use Rattle.cls_library.specs.Families.{IsFamilyIn}
use Rattle.cls_library.specs.Libraries.{Library, paths_at}
use Rattle.cls_library.proofs.ComponentPaths.{component-at}
use Rattle.cls_library.proofs.library.Library.may_lead.Goals as goal

pub returns : goal.returns
returns c = λ e q s n.
    let d = c.args.self.now.taxonomy in
    let same : c.index.result.now.paths ≡ paths_at c.args.self.now c.args.x =
    component-at c.args.self.now c.self.inside.components.items c.args.x c.index.result.now (ap (λ (l : Library). l.components) c.self.view_is) c.requires c.index.ensures in
    subst (λ (ps : Paths). IsFamilyIn d (arrows_of n ps) q []) same (c.may_lead.ensures e d q s n)
