use Rattle.std.proofs.Common.{◌+◌, List, map, arith}
use Rattle.std.proofs.lemmas.List.{length-map}
use Rattle.std.proofs.lemmas.Result.{err_from_is_err_and}
use Rattle.cls_enum.specs.Plans.{book_of, rule_of}
use Rattle.cls_enum.specs.PageRequests.{request_of}
use Rattle.cls_enum.specs.declared.plan.Plan.{Plan}
use Rattle.cls_enum.proofs.FillSteps.{IfTooMany-weaker}
use Rattle.cls_enum.proofs.StateLaws.{too_much-next}
use Rattle.cls_enum.proofs.StateSteps.{kept-next}
use Rattle.cls_enum.proofs.paging.make_others.Goals as goal

pub returns-in_err-make_node-clause-over : goal.returns-in_err-make_node-clause-over
returns-in_err-make_node-clause-over c =
    let p = err_from_is_err_and c.from_residual.result c.from_residual.ensures.1 in
    rw (p.1, p.2) (IfTooMany-weaker _ _ _
    (too_much-next (book_of c.args.plans.now) (request_of c.args.request.now) c.args.size (c.loop-node.node + 1) c.args.request.now.pool)
    c.in_err-make_node.ensures.over)

pub returns-clause-kept : goal.returns-clause-kept
returns-clause-kept c =
    let book = book_of c.args.plans.now in
    let l = length-map c.args.plans.now (λ (x : List Plan). map rule_of x) in
    kept-next book (request_of c.args.request.now) c.args.size c.loop-node.node c.loop-node.enumeration.bank c.loop-node.enumeration.cells c.loop-node.enumeration.due.items c.loop-node.enumeration.total
    (omega (arith, l, c.requires.some)) (omega (arith, l, c.requires.some, c.requires.few, c.loop-node-test.false, c.loop-node.auto.node-end)) c.loop-node.invariant.kept
