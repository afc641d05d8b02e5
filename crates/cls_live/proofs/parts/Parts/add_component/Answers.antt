use Rattle.std.proofs.Common.{◌≡◌, ℕ, ◌+◌, ◌++◌, ◌∷◌, ◌∙◌, [], List, length, length-append, sym, ap, subst, arith}
use Rattle.cls_library.specs.Libraries.{Library}
use Rattle.cls_live.specs.Parts.{PartsSeen, with_component}
use Rattle.cls_live.specs.Slots.{IsStored, seen}
use Rattle.cls_live.proofs.Changing.{stored_with, seen_with, undone}
use Rattle.cls_live.proofs.parts.Parts.add_component.Goals as goal
use Rattle.cls_live.proofs.parts.Parts.add_component.Goals.{After-of}

pub remove-requires : goal.remove-requires
remove-requires c =
    let added = c.in_ok-add.ensures.added in
    let long = ap (λ (l : Library). length l.components) added.added in
    let more = length-append c.args.library.now.components (added.component ∷ []) in
    omega (arith, c.count-component.ensures.count, long, more)

pub returns-in_default-clause-refused : goal.returns-in_default-clause-refused
returns-in_default-clause-refused c = (c.in_ok-add.ensures.added.accepted.room, tt)

pub returns-in_default-clause-unchanged : goal.returns-in_default-clause-unchanged
returns-in_default-clause-unchanged c =
    let added = c.in_ok-add.ensures.added in
    c.remove.ensures ∙ undone c.args.library.now c.add.new.self added.component c.count-component.result added.added c.count-component.ensures.count

-- what the library is once the component was added, and the slots
added :
    (c : After-of)
    → c.of.result.value
    ≡ record {
      taxonomy = c.self.inside.library.value.taxonomy;
      components = c.self.inside.library.value.components ++ c.in_ok-add.ensures.added.component ∷ [];
    }
added c =
    let last = c.in_ok-add.ensures.added.component in
    let given = ap (λ (p : PartsSeen). p.library) c.self.view_is ∙ c.requires in
    c.of.ensures
    ∙ (c.in_ok-add.ensures.added.added ∙ ap (λ (k : Library). record { taxonomy = k.taxonomy; components = k.components ++ last ∷ [] }) (sym given))

slots : (c : After-of) → c.push_reserved.new.self.items ≡ c.self.inside.live.items ++ c.self.inside.next ∷ []
slots c = c.push_reserved.ensures.items ∙ ap (λ (ns : List ℕ). ns ++ c.self.inside.next ∷ []) c.in-Ok.ensures.same

pub invariant_of-self-2 : goal.invariant_of-self-2
invariant_of-self-2 c =
    let i = c.self.inside in
    let at = (goal.at.invariant_of-self-2 c).After-of in
    let n = c.count-self-inside.result in
    subst (λ (ns : List ℕ). IsStored c.of.result.value ns (i.next + 1) n i.goals.keys i.known.items) (sym (slots at))
    (stored_with at.in_ok-add.ensures.added.component (added at) c.self.invariant n (c.count-self-inside.ensures.count ∙ ap (λ (k : Library). length k.components) (sym c.of.ensures)))

pub returns-clause-entries : goal.returns-clause-entries
returns-clause-entries c =
    let i = c.self.inside in
    let m = c.of.result.value in
    let at = (goal.at.returns-clause-entries c).After-of in
    ap (λ (ns : List ℕ). seen m ns i.goals.keys i.known.items) (slots at)
    ∙ (seen_with at.in_ok-add.ensures.added.component (added at) c.self.invariant ∙ ((λ j. with_component (c.self.view_is j) m) ∙ ap (with_component c.args.self.now) c.of.ensures))
