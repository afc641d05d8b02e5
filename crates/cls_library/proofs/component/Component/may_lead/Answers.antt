use Rattle.std.proofs.Common.{◌≡◌, true, false, [], subst, sym, ap, ◌∙◌}
use Rattle.cls_path.specs.Paths.{Paths, listed}
use Rattle.cls_taxon.specs.Orders.{class_by}
use Rattle.cls_library.specs.declared.ending.Ending.{Ending}
use Rattle.cls_library.specs.Arrows.{arrows_of}
use Rattle.cls_library.specs.Endings.{head_of, is_alone, is_marked}
use Rattle.cls_library.specs.Families.{IsFamilyIn}
use Rattle.cls_library.specs.Libraries.{Component}
use Rattle.cls_library.proofs.Marking.{no-family-unmarked}
use Rattle.cls_library.proofs.component.Component.may_lead.Goals as goal

pub returns-then-sought : goal.returns-then-sought
returns-then-sought c = λ e d q sought n.
    let inside = c.self.inside in
    let same : listed inside.paths ≡ c.args.self.now.paths = ap (λ (x : Component). x.paths) c.self.view_is in
    let head : c.args.sought.ending.head ≡ head_of q = ap (λ (x : Ending). x.head) sought.ending in
    let alone : is_alone (class_by d.pairs) (head_of q) ≡ true = ap (is_alone (class_by d.pairs)) (sym head) ∙ (sym sought.alone ∙ c.if-sought.true) in
    let unmarked : is_marked inside.marks.words (head_of q) ≡ false = ap (is_marked inside.marks.words) (sym head) ∙ (sym c.has.ensures ∙ e) in
    subst (λ (ps : Paths). IsFamilyIn d (arrows_of n ps) q []) same
    (no-family-unmarked d n q alone inside.marks.words unmarked inside.paths c.self.invariant.1)
