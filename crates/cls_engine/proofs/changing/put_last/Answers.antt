use Rattle.std.proofs.Common.{[], ◌∷◌, ◌∙◌, length, length-append, ap, arith}
use Rattle.std.specs.Prelude.{remove}
use Rattle.cls_library.specs.Libraries.{Library}
use Rattle.cls_live.specs.Parts.{PartsSeen}
use Rattle.cls_live.proofs.Changing.{undone}
use Rattle.cls_engine.proofs.changing.put_last.Goals as goal

pub drop_component-requires-clause-library : goal.drop_component-requires-clause-library
drop_component-requires-clause-library c = ap (λ (p : PartsSeen). p.library) c.in_ok-add_component.ensures.entries

pub drop_component-requires-clause-declared : goal.drop_component-requires-clause-declared
drop_component-requires-clause-declared c =
    let added = c.in_ok-add_component.ensures.added in
    let long = ap (λ (l : Library). length l.components) added.added in
    let more = length-append c.args.library.now.components (added.component ∷ []) in
    omega (arith, c.count-component.ensures.count, long, more)

pub returns-in_default-clause-refused : goal.returns-in_default-clause-refused
returns-in_default-clause-refused c = (c.in_ok-add_component.ensures.added.accepted.room, tt)

pub returns-in_default-clause-unchanged : goal.returns-in_default-clause-unchanged
returns-in_default-clause-unchanged c =
    let added = c.in_ok-add_component.ensures.added in
    let out = c.drop_component.ensures.library ∙ ap (λ (p : PartsSeen). p.library) c.drop_component.ensures.entries in
    let given = ap (λ (p : PartsSeen). p.library) c.in_ok-add_component.ensures.entries in
    out ∙ ((λ j. record { taxonomy = (given j).taxonomy; components = remove (given j).components c.count-component.result })
    ∙ undone c.args.library.now c.add_component.new.library added.component c.count-component.result added.added c.count-component.ensures.count)

pub returns-clause-parts : goal.returns-clause-parts
returns-clause-parts c = ap (λ (p : PartsSeen). p.library) c.in_ok-add_component.ensures.entries
