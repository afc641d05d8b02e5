use Rattle.std.proofs.Common.{ℕ, arith, subst, sym}
use Rattle.cls_term.specs.Costs.{cost_of}
use Rattle.cls_walk.specs.Counts.{AtLeast, AtMost}
use Rattle.cls_walk.proofs.FrameCounts.{listed-least, listed-most, node-guided, node-listed}
use Rattle.cls_walk.proofs.node_count.count_of_node.Goals as goal

pub returns-clause-least : goal.returns-clause-least
returns-clause-least c = λ book right.
    let plan = c.args.plan.now in
    let cost = cost_of plan.costs.now in
    let node = c.args.node in
    let size = c.args.size in
    let of_node = c.plan_of_node-of_node.result in
    let same = c.plan_of_node-of_node.ensures in
    let old = c.new-walk.result in
    let new = c.stroll.new.walk in
    let cursor = c.passed.result in
    let going = c.in_ok-_going._going in
    let h = c.in_ok-_going.ensures.listed book (node-guided book plan of_node same.costs (same.guide book cost right)) in
    let P : ℕ → Type 0 = λ n. AtLeast book cost size node n in
    subst P (sym c.len.ensures)
    (listed-least book cost node size cursor old new going c.new-walk.ensures.codes (node-listed book plan of_node same.costs node size cursor old new going same.start h))

pub returns-clause-most : goal.returns-clause-most
returns-clause-most c = λ book right few.
    let plan = c.args.plan.now in
    let cost = cost_of plan.costs.now in
    let node = c.args.node in
    let size = c.args.size in
    let of_node = c.plan_of_node-of_node.result in
    let same = c.plan_of_node-of_node.ensures in
    let old = c.new-walk.result in
    let new = c.stroll.new.walk in
    let cursor = c.passed.result in
    let going = c.in_ok-_going._going in
    let h = c.in_ok-_going.ensures.listed book (node-guided book plan of_node same.costs (same.guide book cost right)) in
    let P : ℕ → Type 0 = λ n. AtMost book cost size node n in
    subst P (sym c.len.ensures)
    (listed-most book cost node size cursor old new going c.new-walk.ensures.codes c.passed.ensures
    (λ e. let full = c.in_ok-_going.ensures.back.full e in omega (arith, full, few, same.take, c.len.ensures))
    (node-listed book plan of_node same.costs node size cursor old new going same.start h))
