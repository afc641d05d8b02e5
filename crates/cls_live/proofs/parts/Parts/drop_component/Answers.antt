use Rattle.std.proofs.Common.{◌≡◌, ◌<◌, ◌∙◌, length, sym, ap, subst}
use Rattle.std.specs.Prelude.{remove}
use Rattle.cls_library.specs.Libraries.{Library}
use Rattle.cls_live.specs.Parts.{PartsSeen, without_component}
use Rattle.cls_live.proofs.Changing.{stored_without, seen_without}
use Rattle.cls_live.proofs.parts.Parts.drop_component.Goals as goal
use Rattle.cls_live.proofs.parts.Parts.drop_component.Goals.{After-of}

-- the library that was given is the one that is kept
given : (c : After-of) → c.self.inside.library.value ≡ c.args.library.now
given c = ap (λ (p : PartsSeen). p.library) c.self.view_is ∙ c.requires.library

taken_out :
    (c : After-of)
    → c.of.result.value
    ≡ record { taxonomy = c.self.inside.library.value.taxonomy; components = remove c.self.inside.library.value.components c.args.x }
taken_out c =
    c.of.ensures
    ∙ (c.remove.ensures ∙ ap (λ (k : Library). record { taxonomy = k.taxonomy; components = remove k.components c.args.x }) (sym (given c)))

declared : (c : After-of) → c.args.x < length c.self.inside.library.value.components
declared c = subst (λ (k : Library). c.args.x < length k.components) (sym (given c)) c.requires.declared

pub invariant_of-self : goal.invariant_of-self
invariant_of-self c =
    let at = (goal.at.invariant_of-self c).After-of in
    stored_without (taken_out at) (declared at) c.remove_slot.ensures c.self.invariant c.count-self-inside.result
    (c.count-self-inside.ensures.count ∙ ap (λ (k : Library). length k.components) (sym c.of.ensures))

pub returns-clause-entries : goal.returns-clause-entries
returns-clause-entries c =
    let at = (goal.at.returns-clause-entries c).After-of in
    seen_without (taken_out at) (declared at) c.remove_slot.ensures c.self.invariant
    ∙ ap (λ (p : PartsSeen). without_component p c.args.x) c.self.view_is

pub returns-clause-library : goal.returns-clause-library
returns-clause-library c = sym c.of.ensures
