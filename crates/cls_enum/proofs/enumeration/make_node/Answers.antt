use Rattle.std.proofs.Common.{◌≡◌, ℕ, List, [], ◌∷◌, ◌++◌, ◌<◌, ◌+◌, ap, sym, ◌∙◌, subst, length, map, arith, inl}
use Rattle.std.proofs.lemmas.List.{length-map}
use Rattle.std.proofs.lemmas.Result.{err_from_is_err_and}
use Rattle.cls_base.specs.Languages.{rules_at}
use Rattle.cls_term.specs.Banks.{at}
use Rattle.cls_term.specs.Costs.{cost_of}
use Rattle.cls_enum.specs.CellTables.{cell_of}
use Rattle.cls_enum.specs.Members.{IsIn}
use Rattle.cls_enum.specs.Plans.{book_of, rule_of, rules_of, AreReady}
use Rattle.cls_enum.specs.PageRequests.{request_of}
use Rattle.cls_enum.specs.Requests.{later, due_after}
use Rattle.cls_enum.specs.States.{IsKept}
use Rattle.cls_enum.specs.declared.plan.Plan.{Plan}
use Rattle.cls_enum.proofs.CellLaws.{plans_pruned}
use Rattle.cls_enum.proofs.FillSteps.{IfTooMany-weaker}
use Rattle.cls_enum.proofs.StateSteps.{AllReady-at, book_of-at, plans-over, sized, es-exact, kept-step}
use Rattle.cls_enum.proofs.enumeration.make_node.Goals as goal

pub make-requires-clause-pruned : goal.make-requires-clause-pruned
make-requires-clause-pruned c =
    let book = book_of c.args.plans.now in
    let cost = cost_of c.args.request.now.costs.now in
    let ps = c.index-plans-node.result in
    let ready = AllReady-at book cost c.args.size c.args.plans.now c.args.node ps c.requires.ready c.requires.node c.index-plans-node.is in
    plans_pruned book cost c.args.request.now.positive (cell_of c.args.enumeration.now.bank c.args.enumeration.now.cells) c.args.size (λ t l n e. c.requires.kept.exact t n (inl l) e) c.as_slice.result.now
    (subst (λ (x : List Plan). AreReady book cost c.args.size x) (sym c.as_slice.ensures) ready)

pub returns-in_err-numbers-clause-over : goal.returns-in_err-numbers-clause-over
returns-in_err-numbers-clause-over c =
    let book = book_of c.args.plans.now in
    let r = request_of c.args.request.now in
    let ps = c.index-plans-node.result in
    let q = sym c.as_slice.ensures in
    let ready = subst (λ (x : List Plan). AreReady book r.cost c.args.size x) q (AllReady-at book r.cost c.args.size c.args.plans.now c.args.node ps c.requires.ready c.requires.node c.index-plans-node.is) in
    let ruled = subst (λ (x : List Plan). rules_of x ≡ rules_at book c.args.node) q (book_of-at c.args.plans.now c.args.node ps c.requires.node c.index-plans-node.is) in
    let node : c.args.node < length book = omega (arith, c.requires.node, length-map c.args.plans.now (λ (x : List Plan). map rule_of x)) in
    let p = err_from_is_err_and c.from_residual.result c.from_residual.ensures.1 in
    rw (p.1, p.2) (IfTooMany-weaker _ _ _
    (plans-over book r c.args.request.now.positive c.args.size c.args.node c.args.enumeration.now.bank c.args.enumeration.now.cells c.args.enumeration.now.due.items c.args.enumeration.now.total c.requires.kept c.as_slice.result.now node ready ruled c.args.request.now.pool c.requires.within)
    c.in_err-numbers.ensures.over)

pub add_due-requires : goal.add_due-requires
add_due-requires c =
    let book = book_of c.args.plans.now in
    let r = request_of c.args.request.now in
    let ps = c.index-plans-node.result in
    let q = sym c.as_slice.ensures in
    let ready = subst (λ (x : List Plan). AreReady book r.cost c.args.size x) q (AllReady-at book r.cost c.args.size c.args.plans.now c.args.node ps c.requires.ready c.requires.node c.index-plans-node.is) in
    let ruled = subst (λ (x : List Plan). rules_of x ≡ rules_at book c.args.node) q (book_of-at c.args.plans.now c.args.node ps c.requires.node c.index-plans-node.is) in
    let node : c.args.node < length book = omega (arith, c.requires.node, length-map c.args.plans.now (λ (x : List Plan). map rule_of x)) in
    record {
      sized = λ e j. sized book r c.args.request.now.positive c.args.size c.args.node c.args.enumeration.now.bank c.args.enumeration.now.cells c.args.enumeration.now.due.items c.args.enumeration.now.total c.requires.kept c.as_slice.result.now node ready ruled c.make.new.bank c.in_ok-numbers.numbers.items c.requires.size c.in_ok-numbers.ensures.grown c.in_ok-numbers.ensures.cell e
          (subst (λ (ns : List ℕ). IsIn (map (at c.make.new.bank) ns) e) c.as_slice-2.ensures.value j);
    }

pub returns-clause-kept : goal.returns-clause-kept
returns-clause-kept c =
    let book = book_of c.args.plans.now in
    let r = request_of c.args.request.now in
    let ps = c.index-plans-node.result in
    let q = sym c.as_slice.ensures in
    let ready = subst (λ (x : List Plan). AreReady book r.cost c.args.size x) q (AllReady-at book r.cost c.args.size c.args.plans.now c.args.node ps c.requires.ready c.requires.node c.index-plans-node.is) in
    let ruled = subst (λ (x : List Plan). rules_of x ≡ rules_at book c.args.node) q (book_of-at c.args.plans.now c.args.node ps c.requires.node c.index-plans-node.is) in
    let node : c.args.node < length book = omega (arith, c.requires.node, length-map c.args.plans.now (λ (x : List Plan). map rule_of x)) in
    let exact = es-exact book r c.args.request.now.positive c.args.size c.args.node c.args.enumeration.now.bank c.args.enumeration.now.cells c.args.enumeration.now.due.items c.args.enumeration.now.total c.requires.kept c.as_slice.result.now node ready ruled c.make.new.bank c.in_ok-numbers.numbers.items c.requires.size c.in_ok-numbers.ensures.grown c.in_ok-numbers.ensures.cell in
    let h = kept-step book r c.args.size c.args.node c.args.enumeration.now.bank c.make.new.bank c.args.enumeration.now.cells c.args.enumeration.now.due.items c.in_ok-numbers.numbers.items c.args.enumeration.now.total node c.requires.size c.requires.kept c.in_ok-numbers.ensures.grown c.in_ok-numbers.ensures.cell.below c.in_ok-numbers.ensures.cell.rises exact in
    let K : ℕ × List (List ℕ) → List ℕ → ℕ → Type 0 = λ cells due n. IsKept book r c.args.size (c.args.node + 1) c.make.new.bank cells due (c.args.enumeration.now.total + n) in
    let d : c.add_due.new.due.items ≡ due_after c.args.node (λ n. later r.cost r.after (at c.make.new.bank n)) c.args.enumeration.now.due.items c.in_ok-numbers.numbers.items =
    c.in_ok-add_due.ensures ∙ ap (due_after c.args.node (λ n. later r.cost r.after (at c.make.new.bank n)) c.args.enumeration.now.due.items) c.as_slice-2.ensures.value in
    let l : c.len.result ≡ length c.in_ok-numbers.numbers.items = omega (arith, c.len.ensures, c.in_ok-numbers.numbers.ok.0) in
    subst (λ (x : ℕ × List (List ℕ)). K x c.add_due.new.due.items c.len.result) (sym c.in_ok-push.ensures.ok)
    (subst (λ (x : List ℕ). K (c.args.enumeration.now.cells.0, c.args.enumeration.now.cells.1 ++ c.in_ok-numbers.numbers.items ∷ []) x c.len.result) (sym d)
    (subst (λ (x : ℕ). K (c.args.enumeration.now.cells.0, c.args.enumeration.now.cells.1 ++ c.in_ok-numbers.numbers.items ∷ []) (due_after c.args.node (λ n. later r.cost r.after (at c.make.new.bank n)) c.args.enumeration.now.due.items c.in_ok-numbers.numbers.items) x) (sym l) h))
