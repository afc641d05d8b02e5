use Rattle.std.proofs.Common.{arith, ap, sym, subst, ◌∙◌, get_or, List}
use Rattle.std.specs.Prelude.{Contains}
use Rattle.cls_core.specs.Arguments.{map_answer}
use Rattle.cls_core.proofs.Insertion.{place-found}
use Rattle.cls_core.proofs.Members.{any-contains}
use Rattle.cls_expand.specs.Memos.{StoreSeen}
use Rattle.cls_expand.proofs.Keeping.{zip-length, named-answer, found-answer}
use Rattle.cls_expand.proofs.store.StoreMemo.answer.Goals as goal

pub index-requires : goal.index-requires
index-requires g c =
    let i = c.self.inside in
    omega (arith, c.in-Some.ensures.within, zip-length _ i.goals.keys i.answers.items c.self.invariant.answered, i.answers.ok.0)

pub returns-clause-held : goal.returns-clause-held
returns-clause-held g c =
    let i = c.self.inside in
    subst (λ (s : StoreSeen g.row.E-Tag.Denot g.row.E-Goal.Denot). Contains s.goals c.args.goal.now) c.self.view_is (any-contains g.E.Goal.PartialEq.eq g.met.E.Goal.Key.exact g.met.E.Goal.Eq.laws.refl i.goals.keys c.args.goal.now (sym c.in-Some.ensures.found))

pub returns-clause-meant : goal.returns-clause-meant
returns-clause-meant g c =
    let i = c.self.inside in
    let eq = g.E.Goal.PartialEq.eq in
    let exact = g.met.E.Goal.Key.exact in
    let reflexive = g.met.E.Goal.Eq.laws.refl in
    let goal = c.args.goal.now in
    let tag = g.E.Expand.tag i.by.value in
    let there = sym c.in-Some.ensures.found in
    let held = found-answer eq exact reflexive (g.E.Expand.answers tag) i.goals.keys i.answers.items goal c.index.result.now c.in-Some.place c.self.invariant.answered there (place-found (eq goal) i.goals.keys c.in-Some.place (sym c.in-Some.ensures.index)) (let w = c.in-Some.ensures.within in w) in
    subst (λ a. g.E.Expand.answers (g.E.Expand.tag c.args._by.now) goal a) (sym (c.in_ok-answer.ensures ∙ (ap (λ (l : List g.row.E-Goal.Denot). map_answer (λ i. get_or l i goal) c.index.result.now) c.as_slice.ensures.keys ∙ (ap (map_answer (λ x. get_or i.goals.keys x goal)) c.index.ensures ∙ named-answer eq exact reflexive (g.E.Expand.answers tag) i.goals.keys goal goal (get_or i.answers.items c.in-Some.place c.index.result.now) held))))
    (subst (λ t. g.E.Expand.answers t goal held.answer) (sym (c.requires.tag ∙ sym (ap (λ (s : StoreSeen g.row.E-Tag.Denot g.row.E-Goal.Denot). s.tag) c.self.view_is))) held.is_answer)
