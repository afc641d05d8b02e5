use Rattle.std.proofs.Common.{◌≡◌, Some, ap, sym, subst, ◌∙◌}
use Rattle.cls_path.specs.Paths.{TypePath, Paths, none, more, listed}
use Rattle.cls_path.specs.declared.source.ArrowSource.TheVariants as taken
use Rattle.cls_library.specs.Reaching.{PathLeIn}
use Rattle.cls_check.specs.Deciding.{AllSuitIn, SomeAbove, source_of}
use Rattle.cls_check.specs.Found.{Adds}
use Rattle.cls_check.specs.Places.{arrows_in}
use Rattle.cls_check.proofs.Arguments.{found_source}
use Rattle.cls_check.proofs.FoundLaws.{adds-alike, adds-none, above-one, above-none}
use Rattle.cls_check.proofs.Lists.{not_got}
use Rattle.cls_check.proofs.found.put_source.Goals as goal

pub put_path-requires-clause-path : goal.put_path-requires-clause-path
put_path-requires-clause-path c =
    let q = c.atom.result in
    let here : more q none ≡ source_of c.args.arrow.now c.args.at = (ap (λ (p : TypePath). more p none) c.atom.ensures)
    ∙ found_source c.args.arrow.now c.args.at c.source.result (taken.Name c.in-Some-Name.name) c.source.ensures (c.in-Some-Name.is ∙ ap Some c.in-Some-Name.field-0-is) in
    (subst (λ (n : Paths). AllSuitIn c.args.lib.now n) (sym here) c.requires.source).0

pub put_goal-requires-clause-goal : goal.put_goal-requires-clause-goal
put_goal-requires-clause-goal c =
    let here : listed c.in-Some-Paths.source.now ≡ source_of c.args.arrow.now c.args.at =
    found_source c.args.arrow.now c.args.at c.source.result (taken.Paths c.in-Some-Paths.source) c.source.ensures (c.in-Some-Paths.is ∙ ap Some c.in-Some-Paths.field-0-is) in
    subst (λ (n : Paths). AllSuitIn c.args.lib.now n) (sym here) c.requires.source

pub returns-in_ok-put_path-in-Some-Name : goal.returns-in_ok-put_path-in-Some-Name
returns-in_ok-put_path-in-Some-Name c = λ e.
    let l = c.args.lib.now in
    let arrows = arrows_in l c.args.place in
    let old = c.args.positions.now.items in
    let new = c.put_path-in-Some-Name.new.positions.items in
    let q = c.atom.result in
    let here : more q none ≡ source_of c.args.arrow.now c.args.at = (ap (λ (p : TypePath). more p none) c.atom.ensures)
    ∙ found_source c.args.arrow.now c.args.at c.source.result (taken.Name c.in-Some-Name.name) c.source.ensures (c.in-Some-Name.is ∙ ap Some c.in-Some-Name.field-0-is) in
    subst (λ (n : Paths). Adds arrows (SomeAbove l n) old new) here
    (adds-alike arrows (λ p. PathLeIn l p q) (SomeAbove l (more q none)) old new (above-one l q) (c.in_ok-put_path-in-Some-Name.ensures e))

pub returns-in_ok-put_goal-in-Some-Paths : goal.returns-in_ok-put_goal-in-Some-Paths
returns-in_ok-put_goal-in-Some-Paths c = λ e.
    let l = c.args.lib.now in
    let here : listed c.in-Some-Paths.source.now ≡ source_of c.args.arrow.now c.args.at =
    found_source c.args.arrow.now c.args.at c.source.result (taken.Paths c.in-Some-Paths.source) c.source.ensures (c.in-Some-Paths.is ∙ ap Some c.in-Some-Paths.field-0-is) in
    subst (λ (n : Paths). Adds (arrows_in l c.args.place) (SomeAbove l n) c.args.positions.now.items c.put_goal.new.positions.items) here (c.in_ok-put_goal-in-Some-Paths.ensures e)

pub returns-in-None : goal.returns-in-None
returns-in-None c = λ _.
    let l = c.args.lib.now in
    let missing : source_of c.args.arrow.now c.args.at ≡ none = not_got c.args.arrow.now.sources c.args.at none c.in-None.ensures in
    adds-none (arrows_in l c.args.place) (SomeAbove l (source_of c.args.arrow.now c.args.at)) c.args.positions.now.items
    (λ p h. above-none l p (subst (λ (n : Paths). SomeAbove l n p) missing h))
