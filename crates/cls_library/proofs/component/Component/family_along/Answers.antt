use Rattle.std.proofs.Common.{◌≡◌, ℕ, List, [], None, Some, true, subst, sym, ap, ◌∙◌}
use Rattle.cls_path.specs.Paths.{Paths, listed, SuitsAll}
use Rattle.cls_taxon.specs.Orders.{class_by}
use Rattle.cls_library.specs.declared.ending.Ending.{Ending}
use Rattle.cls_library.specs.Arrows.{arrows_of}
use Rattle.cls_library.specs.Endings.{IsFound, ending_behind, ending_of, head_of, is_alone}
use Rattle.cls_library.specs.Families.{IsFamilyIn}
use Rattle.cls_library.specs.Libraries.{Component, variances_in}
use Rattle.cls_library.proofs.Along.{silent-all}
use Rattle.cls_library.proofs.Columns.{column-places}
use Rattle.cls_library.proofs.component.Component.family_along.Goals as goal

pub returns-in_default : goal.returns-in_default
returns-in_default c =
    let inside = c.self.inside in
    let d = c.args.taxonomy.now in
    let n = c.args.count in
    let q = c.args.path.now in
    let keys = inside.endings.kinds.keys in
    let same : listed inside.paths ≡ c.args.self.now.paths = ap (λ (x : Component). x.paths) c.self.view_is in
    let alone : is_alone (class_by d.pairs) (head_of q) ≡ true = ap (λ (e : Ending). is_alone (class_by d.pairs) e.head) (sym c.requires.sought.ending) ∙ (sym c.requires.sought.alone ∙ c.requires.alone) in
    let wanted : c.behind.result ≡ ending_behind n (ending_of q) = c.behind.ensures ∙ ap (ending_behind n) c.requires.sought.ending in
    let found : IsFound keys (ending_behind n (ending_of q)) None = subst (λ (e : Ending). IsFound keys e None) wanted c.in_default.ensures in
    subst (λ (f : List ℕ). IsFamilyIn d (arrows_of n c.args.self.now.paths) q f) (sym (c.new-in_default.ensures ∙ c.new.ensures.items))
    (subst (λ (ps : Paths). IsFamilyIn d (arrows_of n ps) q []) same
    (silent-all d n q inside.paths alone keys inside.endings.places.items c.self.invariant.0.endings found))

pub family_along-requires-clause-column : goal.family_along-requires-clause-column
family_along-requires-clause-column c =
    let inside = c.self.inside in
    let same : listed inside.paths ≡ c.args.self.now.paths = ap (λ (x : Component). x.paths) c.self.view_is in
    rw c.paths.ensures
    (column-places inside.paths inside.columns.items inside.endings.kinds.keys inside.endings.places.items c.self.invariant.0 c.args.self.now.paths same c.args.count c.requires.within c.index.result.now c.index.ensures)

pub family_along-requires-clause-endings : goal.family_along-requires-clause-endings
family_along-requires-clause-endings c = rw c.paths.ensures c.self.invariant.0.endings

pub family_along-requires-clause-chains : goal.family_along-requires-clause-chains
family_along-requires-clause-chains c = c.self.invariant.2

pub family_along-requires-clause-stems : goal.family_along-requires-clause-stems
family_along-requires-clause-stems c = rw c.paths.ensures c.self.invariant.4

pub family_along-requires-clause-kind : goal.family_along-requires-clause-kind
family_along-requires-clause-kind c =
    let wanted : c.behind.result ≡ ending_behind c.args.count (ending_of c.args.path.now) = c.behind.ensures ∙ ap (ending_behind c.args.count) c.requires.sought.ending in
    subst (λ (e : Ending). IsFound c.self.inside.endings.kinds.keys e (Some c.in-Some.kind)) wanted c.in-Some.ensures

pub family_along-requires-clause-alone : goal.family_along-requires-clause-alone
family_along-requires-clause-alone c =
    ap (λ (e : Ending). is_alone (class_by c.args.taxonomy.now.pairs) e.head) (sym c.requires.sought.ending) ∙ (sym c.requires.sought.alone ∙ c.requires.alone)

pub family_along-requires-clause-paths : goal.family_along-requires-clause-paths
family_along-requires-clause-paths c =
    let same : listed c.self.inside.paths ≡ c.args.self.now.paths = ap (λ (x : Component). x.paths) c.self.view_is in
    rw c.paths.ensures (subst (SuitsAll (variances_in c.args.taxonomy.now)) (sym same) c.requires.paths)

pub returns : goal.returns
returns c =
    let same : listed c.self.inside.paths ≡ c.args.self.now.paths = ap (λ (x : Component). x.paths) c.self.view_is in
    rw (c.new-2.ensures, ← same, ← c.paths.ensures) c.in_ok-family.ensures
