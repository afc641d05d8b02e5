use Rattle.std.proofs.Common.{◌≡◌, false, sym, subst, ap, ◌∙◌, []}
use Rattle.std.specs.List.{list_any}
use Rattle.cls_path.specs.Paths.{Paths, listed}
use Rattle.cls_taxon.specs.Decisions.{is_below}
use Rattle.cls_library.specs.Arrows.{arrows_of}
use Rattle.cls_library.specs.declared.ending.Ending.{Ending}
use Rattle.cls_library.specs.Endings.{may_end_below, ending_of, ending_behind, has_depth}
use Rattle.cls_library.specs.Families.{IsFamilyIn}
use Rattle.cls_library.specs.Libraries.{Component, variances_in}
use Rattle.cls_library.proofs.Marking.{no-family-undeep}
use Rattle.cls_library.proofs.Unreached.{no-family}
use Rattle.cls_library.proofs.component.Component.may_lead_by.Goals as goal

pub returns : goal.returns
returns c = λ e q sought.
    let inside = c.self.inside in
    let test = is_below c.args.taxonomy.now in
    let n = c.args.count in
    let same : listed inside.paths ≡ c.args.self.now.paths = ap (λ (x : Component). x.paths) c.self.view_is in
    let none : list_any (λ lower. may_end_below test n lower (ending_of q)) inside.endings.kinds.keys ≡ false =
    ap (λ (upper : Ending). list_any (λ lower. may_end_below test n lower upper) inside.endings.kinds.keys) (sym sought.ending) ∙ (sym c.may_lead.ensures ∙ e) in
    subst (λ (ps : Paths). IsFamilyIn c.args.taxonomy.now (arrows_of n ps) q []) same
    (no-family test (variances_in c.args.taxonomy.now) n q inside.endings.kinds.keys none inside.endings.places.items inside.paths c.self.invariant.0.endings)

pub returns-then-not-has : goal.returns-then-not-has
returns-then-not-has c = λ e q sought.
    let inside = c.self.inside in
    let n = c.args.count in
    let same : listed inside.paths ≡ c.args.self.now.paths = ap (λ (x : Component). x.paths) c.self.view_is in
    let word = inside.depths.word in
    let undeep : has_depth word (ending_behind n (ending_of q)).arrows ≡ false =
    ap (λ (x : Ending). has_depth word (ending_behind n x).arrows) (sym sought.ending) ∙ (ap (λ (x : Ending). has_depth word x.arrows) (sym c.behind.ensures) ∙ (sym c.has.ensures ∙ c.if-not-has.true)) in
    subst (λ (ps : Paths). IsFamilyIn c.args.taxonomy.now (arrows_of n ps) q []) same
    (no-family-undeep c.args.taxonomy.now n q word undeep inside.paths c.self.invariant.3)
