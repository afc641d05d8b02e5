use Rattle.std.proofs.Common.{◌≡◌, ◌∙◌, true, false, arith, ap, sym, subst}
use Rattle.std.specs.Prelude.{Contains}
use Rattle.cls_core.proofs.Insertion.{place-found}
use Rattle.cls_core.proofs.Members.{any-contains, contains-any}
use Rattle.cls_path.specs.OrderLaws.{list_equal, list_same}
use Rattle.cls_live.specs.Parts.{PartsSeen, same}
use Rattle.cls_live.proofs.Keeping.{found_at, stored_at, stored_for}
use Rattle.cls_live.proofs.Parting.{zip_length}
use Rattle.cls_live.proofs.parts.PartsMemoExpander.answer.Goals as goal

pub returns-in_default-clause-none : goal.returns-in_default-clause-none
returns-in_default-clause-none c = λ held.
    let keys = c.self.inside.goals.keys in
    let here = subst (λ (p : PartsSeen). Contains p.goals c.args.goal.now) (sym c.self.view_is) held in
    let clash : false ≡ true =
    c.in_default.ensures.found ∙ contains-any same list_same list_equal.refl keys c.args.goal.now here in
    cc

pub index-requires : goal.index-requires
index-requires c =
    let i = c.self.inside in
    omega (arith, c.in-Some.ensures.within, zip_length _ i.goals.keys i.known.items c.self.invariant.each, i.known.ok.0)

pub answer_by-requires-clause-few : goal.answer_by-requires-clause-few
answer_by-requires-clause-few c =
    let i = c.self.inside in
    let is = c.requires.tag ∙ sym (ap (λ (p : PartsSeen). p.library) c.self.view_is) in
    stored_for c.args.by.now i.library.value i.live.items c.as_slice-live.result.now i.next i.count i.goals.keys i.known.items c.in-Some.place
    is c.as_slice-live.ensures.value (let w = c.in-Some.ensures.within in w) c.self.invariant c.requires.ready.library

pub answer_by-requires-clause-stored : goal.answer_by-requires-clause-stored
answer_by-requires-clause-stored c =
    let i = c.self.inside in
    let goal = c.args.goal.now in
    let is = c.requires.tag ∙ sym (ap (λ (p : PartsSeen). p.library) c.self.view_is) in
    let within = c.in-Some.ensures.within in
    let long = zip_length _ i.goals.keys i.known.items c.self.invariant.each in
    let found =
    found_at i.goals.keys i.known.items goal c.in-Some.place c.index.result.now (sym c.in-Some.ensures.found)
    (place-found (same goal) i.goals.keys c.in-Some.place (sym c.in-Some.ensures.index)) (omega (arith, within, long)) c.index.ensures in
    rw (c.as_slice-live.ensures.value, c.as_slice.ensures.keys)
    (stored_at i.library.value c.args.by.now i.live.items i.next i.count i.goals.keys i.known.items c.in-Some.place goal c.index.result.now
    is (let w = within in w) found.0 found.1 c.self.invariant)

pub returns-clause-held : goal.returns-clause-held
returns-clause-held c =
    let i = c.self.inside in
    subst (λ (p : PartsSeen). Contains p.goals c.args.goal.now) c.self.view_is (any-contains same list_same list_equal.refl i.goals.keys c.args.goal.now (sym c.in-Some.ensures.found))
