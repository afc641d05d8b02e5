use Rattle.std.proofs.Common.{◌≡◌, ℕ, List, ◌<◌, length, map, take, arith, subst, sym, ap, ◌∙◌, inl, inr, Bool}
use Rattle.std.specs.Prelude.{nat_lt, ◌⊎◌}
use Rattle.std.proofs.lemmas.List.{length-map}
use Rattle.cls_base.specs.Languages.{IsGenerated}
use Rattle.cls_base.specs.Pages.{IsPage}
use Rattle.cls_base.specs.Terms.{Applicative}
use Rattle.cls_term.specs.Banks.{at}
use Rattle.cls_enum.specs.Plans.{book_of, rule_of}
use Rattle.cls_enum.specs.PageRequests.{request_of}
use Rattle.cls_enum.specs.declared.plan.Plan.{Plan}
use Rattle.cls_enum.proofs.StateLaws.{page-is, within-at}
use Rattle.cls_enum.proofs.StateSteps.{kept-initial}
use Rattle.cls_enum.proofs.paging.list.Goals as goal

pub collect-requires-clause-kept : goal.collect-requires-clause-kept
collect-requires-clause-kept c =
    kept-initial (book_of c.args.plans.items) (request_of c.args.request.now) c.len.result c.new.result c.new-2.result c.new-3.result.items
    (omega (arith, c.len.ensures, c.args.plans.ok.0, length-map c.args.plans.items (λ (x : List Plan). map rule_of x))) c.new.ensures c.new-2.ensures c.new-3.ensures.items

pub returns-clause-page : goal.returns-clause-page
returns-clause-page c =
    let book = book_of c.args.plans.items in
    let r = request_of c.args.request.now in
    let ts = c.collect.new.enumeration.bank in
    let due = c.collect.new.enumeration.due.items in
    let d = c.in_ok-collect.ensures.done in
    let decides : (r.take < length (map (at ts) due)) ⊎ (d.size ≡ r.max) = elim d.decides [ inl l ↦ inl (omega (arith, length-map due (at ts))) | inr p ↦ inr p ] in
    let h = page-is book r d.size d.pairs (map (at ts) due) d.state (omega (arith, c.requires.taken)) d.within_max decides in
    let t : c.in_ok-first_due.field-0.terms ≡ take r.take (map (at ts) due) = c.in_ok-first_due.ensures.terms ∙ ap (λ (ns : List ℕ). take r.take (map (at ts) ns)) c.as_slice.ensures.value in
    let m : c.in_ok-first_due.field-0.more ≡ nat_lt r.take (length (map (at ts) due)) = c.in_ok-first_due.ensures.more ∙ ap (λ (ns : List ℕ). nat_lt r.take (length ns)) c.as_slice.ensures.value ∙ ap (nat_lt r.take) (sym (length-map due (at ts))) in
    subst (λ (b : Bool). IsPage (IsGenerated book 0) r c.in_ok-first_due.field-0.terms b) (sym m)
    (subst (λ (es : List Applicative). IsPage (IsGenerated book 0) r es (nat_lt r.take (length (map (at ts) due)))) (sym t) h)

pub returns-clause-within : goal.returns-clause-within
returns-clause-within c =
    let book = book_of c.args.plans.items in
    let r = request_of c.args.request.now in
    let ts = c.collect.new.enumeration.bank in
    let due = c.collect.new.enumeration.due.items in
    let d = c.in_ok-collect.ensures.done in
    let decides : (r.take < length (map (at ts) due)) ⊎ (d.size ≡ r.max) = elim d.decides [ inl l ↦ inl (omega (arith, length-map due (at ts))) | inr p ↦ inr p ] in
    within-at book r d.size c.args.request.now.pool d.pairs (map (at ts) due) d.state d.within_pool decides
