use Rattle.std.proofs.Common.{arith}
use Rattle.cls_term.proofs.Decodes.{passing-next, passing-room}
use Rattle.cls_term.proofs.coded_term.behind_terms.Goals as goal

pub bounds-rest-1 : goal.bounds-rest-1
bounds-rest-1 c =
    let room = passing-room c.args.count c.loop-left.left c.args.code.now c.loop-left.rest.now c.loop-left.invariant in
    omega (arith, c.loop-left-test.true, room)

pub overflow_add-left : goal.overflow_add-left
overflow_add-left c =
    let next = passing-next c.args.count c.loop-left.left c.args.code.now c.loop-left.rest.now c.loop-left-test.true c.loop-left.invariant in
    omega (arith, passing-room _ _ _ _ next, next.shorter)

pub slice_bounds-rest-count : goal.slice_bounds-rest-count
slice_bounds-rest-count c =
    let room = passing-room c.args.count c.loop-left.left c.args.code.now c.loop-left.rest.now c.loop-left.invariant in
    omega (arith, c.loop-left-test.true, room)

pub slice_bounds-rest-start : goal.slice_bounds-rest-start
slice_bounds-rest-start c =
    let room = passing-room c.args.count c.loop-left.left c.args.code.now c.loop-left.rest.now c.loop-left.invariant in
    omega (arith, c.loop-left-test.true, room)

pub loop-left-smaller : goal.loop-left-smaller
loop-left-smaller c =
    let room = passing-room c.args.count c.loop-left.left c.args.code.now c.loop-left.rest.now c.loop-left.invariant in
    omega (arith, c.loop-left-test.true, room)

pub loop-left-preserved : goal.loop-left-preserved
loop-left-preserved c = passing-next c.args.count c.loop-left.left c.args.code.now c.loop-left.rest.now c.loop-left-test.true c.loop-left.invariant
