use Rattle.std.proofs.Common.{◌<◌, ◌≤◌, length, map, arith}
use Rattle.std.proofs.lemmas.Result.{err_from_is_err_and}
use Rattle.cls_filtered.specs.StepBooks.{step_rule}
use Rattle.cls_filtered.proofs.FaultLaws.{many-weaker}
use Rattle.cls_filtered.proofs.Nodes.{nodes-begun, nodes-more, start-much, nodes-much, nodes-all, nodes-within, nodes-book}
use Rattle.cls_filtered.proofs.filtered_book.book_of.Goals as goal

pub loop-node-init : goal.loop-node-init
loop-node-init c =
    nodes-begun c.args.filter.now c.args.maker.now.kept c.args.steps.now (map step_rule c.steps-first.result.now) c.new-draft.result.nodes.items c.put_start.new.draft.nodes.items c.new-draft.result.room c.args.limit c.put_start.new.draft.room c.steps-first.ensures c.new-draft.ensures.nodes c.new-draft.ensures.room c.in_ok-put_start.ensures.ok

pub steps-own-requires : goal.steps-own-requires
steps-own-requires c = omega (arith, c.loop-node-test.true, c.count-node-end.ensures)

pub loop-node-preserved : goal.loop-node-preserved
loop-node-preserved c =
    let within : c.loop-node.node < length c.args.steps.now = omega (arith, c.loop-node-test.true, c.count-node-end.ensures) in
    nodes-more c.args.filter.now c.args.maker.now.kept c.args.steps.now c.loop-node.node (map step_rule c.steps-own.result.now) c.loop-node.draft.nodes.items c.put_nodes.new.draft.nodes.items c.args.limit c.loop-node.draft.room c.put_nodes.new.draft.room within c.steps-own.ensures c.loop-node.invariant c.in_ok-put_nodes.ensures.ok

pub returns-in_err-put_start-clause-large : goal.returns-in_err-put_start-clause-large
returns-in_err-put_start-clause-large c =
    let p = err_from_is_err_and c.from_residual.result c.from_residual.ensures.1 in
    rw (p.1, p.2) (many-weaker _ _ _
    (start-much c.args.filter.now c.args.maker.now.kept c.args.steps.now c.requires.sized (map step_rule c.steps-first.result.now) c.new-draft.result.room c.args.limit c.steps-first.ensures c.new-draft.ensures.room)
    c.in_err-put_start.ensures.large)

pub returns-in_err-put_nodes-clause-large : goal.returns-in_err-put_nodes-clause-large
returns-in_err-put_nodes-clause-large c =
    let within : c.loop-node.node < length c.args.steps.now = omega (arith, c.loop-node-test.true, c.count-node-end.ensures) in
    let p = err_from_is_err_and c.from_residual-in_err-put_nodes.result c.from_residual-in_err-put_nodes.ensures.1 in
    rw (p.1, p.2) (many-weaker _ _ _
    (nodes-much c.args.filter.now c.args.maker.now.kept c.args.steps.now c.requires.sized c.loop-node.node (map step_rule c.steps-own.result.now) c.loop-node.draft.nodes.items c.args.limit c.loop-node.draft.room within c.steps-own.ensures c.loop-node.invariant)
    c.in_err-put_nodes.ensures.large)

pub invariant_of-result : goal.invariant_of-result
invariant_of-result c =
    let over : length c.args.steps.now ≤ c.loop-node.node = omega (arith, c.loop-node-test.false, c.count-node-end.ensures) in
    nodes-book c.args.filter.now c.args.maker.now.kept c.args.steps.now c.requires.sized c.loop-node.draft.nodes.items c.requires.few
    (nodes-all c.args.filter.now c.args.maker.now.kept c.args.steps.now c.requires.sized c.loop-node.node c.loop-node.draft.nodes.items c.args.limit c.loop-node.draft.room over c.loop-node.invariant)

pub returns-clause-book : goal.returns-clause-book
returns-clause-book c =
    let over : length c.args.steps.now ≤ c.loop-node.node = omega (arith, c.loop-node-test.false, c.count-node-end.ensures) in
    nodes-all c.args.filter.now c.args.maker.now.kept c.args.steps.now c.requires.sized c.loop-node.node c.loop-node.draft.nodes.items c.args.limit c.loop-node.draft.room over c.loop-node.invariant

pub returns-clause-within : goal.returns-clause-within
returns-clause-within c =
    nodes-within c.args.filter.now c.args.maker.now.kept c.args.steps.now c.requires.sized c.loop-node.node c.loop-node.draft.nodes.items c.args.limit c.loop-node.draft.room c.loop-node.invariant
