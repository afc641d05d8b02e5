use Rattle.std.proofs.Common.{◌≡◌, ◌+◌, ℕ, List, map, arith, subst, ap, ◌∙◌, inl}
use Rattle.std.proofs.lemmas.Result.{err_from_is_err_and}
use Rattle.cls_base.specs.declared.rule.Rule.{Rule}
use Rattle.cls_enum.specs.Faults.{IfTooMany}
use Rattle.cls_enum.specs.States.{IsKept, ExceedsPool, IsOverfullAt, IsState}
use Rattle.cls_enum.proofs.FillSteps.{IfTooMany-weaker}
use Rattle.std.proofs.lemmas.List.{length-map}
use Rattle.cls_term.specs.Banks.{at}
use Rattle.cls_enum.specs.Plans.{book_of}
use Rattle.cls_enum.specs.PageRequests.{request_of}
use Rattle.cls_enum.proofs.StateLaws.{none-at_first, few-before, few-upto, over-at, over-next, IfErr-weaker}
use Rattle.cls_enum.proofs.paging.collect.Goals as goal

pub loop-size-init : goal.loop-size-init
loop-size-init c =
    let ts = c.args.enumeration.now.bank in
    let due = c.args.enumeration.now.due.items in
    record {
      kept = c.requires.kept;
      within = c.requires.within;
      few = omega (arith, length-map due (at ts), none-at_first (book_of c.args.plans.items) (request_of c.args.request.now) c.requires.kept.pairs (map (at ts) due) c.args.request.now.take c.requires.kept.state);
      book = λ i. book_of c.args.plans.items;
      ready = c.requires.ready;
    }

pub returns-in_err-make_node-clause-over : goal.returns-in_err-make_node-clause-over
returns-in_err-make_node-clause-over c =
    let book = book_of c.args.plans.items in
    let r = request_of c.args.request.now in
    let e = ap book_of c.as_slice-rules.ensures.value ∙ c.loop-size.invariant.book in
    let due = c.loop-size.enumeration.due.items in
    let ts = c.loop-size.enumeration.bank in
    let few = few-before book r c.loop-size.size c.loop-size.invariant.kept.pairs (map (at ts) due) c.loop-size.invariant.kept.state (omega (arith, length-map due (at ts), c.loop-size.invariant.few)) in
    let p = err_from_is_err_and c.from_residual.result c.from_residual.ensures.1 in
    rw (p.1, p.2) (IfTooMany-weaker _ _ _
    (λ h. over-at book r c.loop-size.size c.args.request.now.pool (subst (λ (x : List (List (Rule ℕ))). IsOverfullAt x r c.loop-size.size 1 c.args.request.now.pool) e h) (omega (arith, c.loop-size-test.true)) few)
    c.in_err-make_node.ensures.over)

pub returns-in_err-make_others-clause-over : goal.returns-in_err-make_others-clause-over
returns-in_err-make_others-clause-over c =
    let book = book_of c.args.plans.items in
    let r = request_of c.args.request.now in
    let e = ap book_of c.as_slice-rules.ensures.value ∙ c.loop-size.invariant.book in
    let enumeration = c.make_node.new.enumeration in
    let due = enumeration.due.items in
    let kept : IsKept book r c.loop-size.size 1 enumeration.bank enumeration.cells due enumeration.total = subst (λ (x : List (List (Rule ℕ))). IsKept x r c.loop-size.size 1 enumeration.bank enumeration.cells due enumeration.total) e c.in_ok-make_node.ensures.kept in
    let few = few-upto book r c.loop-size.size kept.pairs (map (at enumeration.bank) due) kept.state (omega (arith, length-map due (at enumeration.bank), c.if-len-request.false, c.len.ensures, enumeration.due.ok.0)) in
    let p = err_from_is_err_and c.from_residual-in_err-make_others.result c.from_residual-in_err-make_others.ensures.1 in
    rw (p.1, p.2) (IfTooMany-weaker _ _ _
    (λ h. over-next book r c.loop-size.size c.args.request.now.pool (subst (λ (x : List (List (Rule ℕ))). IsOverfullAt x r (c.loop-size.size + 1) 0 c.args.request.now.pool) e h) (omega (arith, c.loop-size-test.true)) few)
    c.in_err-make_others.ensures.over)

pub loop-size-preserved : goal.loop-size-preserved
loop-size-preserved c =
    let book = book_of c.args.plans.items in
    let r = request_of c.args.request.now in
    let e = ap book_of c.as_slice-rules.ensures.value ∙ c.loop-size.invariant.book in
    let enumeration = c.make_others.new.enumeration in
    let kept : IsKept book r (c.loop-size.size + 1) 0 enumeration.bank enumeration.cells enumeration.due.items enumeration.total = subst (λ (x : List (List (Rule ℕ))). IsKept x r (c.loop-size.size + 1) 0 enumeration.bank enumeration.cells enumeration.due.items enumeration.total) e c.in_ok-make_others.ensures.kept in
    record {
      kept = kept;
      within = c.in_ok-make_others.ensures.within;
      few = omega (arith, c.if-len-request.false, c.len.ensures, c.make_node.new.enumeration.due.ok.0, c.in_ok-make_others.ensures.same);
      book = c.in_ok-current.ensures.book ∙ c.loop-size.invariant.book;
      ready = c.in_ok-current.ensures.ready book r.cost (λ t l n x m. (kept.exact t n (inl (omega (arith, l))) x).1 m) c.loop-size.invariant.ready;
    }

pub returns-clause-over : goal.returns-clause-over
returns-clause-over c =
    let book = book_of c.args.plans.items in
    let r = request_of c.args.request.now in
    let e = ap book_of c.as_slice-rules-2.ensures.value ∙ c.loop-size.invariant.book in
    let ts = c.loop-size.enumeration.bank in
    let due = c.loop-size.enumeration.due.items in
    let z : c.loop-size.size ≡ c.args.request.now.max = omega (arith, c.loop-size-test.false, c.loop-size.auto.size-end) in
    let few = few-before book r c.args.request.now.max c.loop-size.invariant.kept.pairs (map (at ts) due) (subst (λ (n : ℕ). IsState book r n 0 c.loop-size.invariant.kept.pairs (map (at ts) due)) z c.loop-size.invariant.kept.state) (omega (arith, length-map due (at ts), c.loop-size.invariant.few)) in
    IfErr-weaker c.make_node-2.result (λ fault. IfTooMany fault (IsOverfullAt (book_of c.as_slice-rules-2.result.now) r c.args.request.now.max 1 c.args.request.now.pool)) (λ fault. IfTooMany fault (ExceedsPool book r c.args.request.now.pool))
    (λ fault h. IfTooMany-weaker fault _ _ (λ h. over-at book r c.args.request.now.max c.args.request.now.pool (subst (λ (x : List (List (Rule ℕ))). IsOverfullAt x r c.args.request.now.max 1 c.args.request.now.pool) e h) (omega arith) few) h)
    c.make_node-2.ensures.over
