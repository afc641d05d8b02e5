use Rattle.std.proofs.Common.{ℕ, ◌^◌, ◌-◌, ◌*◌, arith, sym, ap, ◌∙◌, subst, min}
use Rattle.cls_term.specs.Costs.{cost_of}
use Rattle.cls_walk.specs.Ends.{EndsAt}
use Rattle.cls_walk.proofs.Endings.{ends-here, nodes-next, nodes-whole, not_capped}
use Rattle.cls_walk.proofs.ends.last_size.Goals as goal

pub loop-node-preserved : goal.loop-node-preserved
loop-node-preserved g c =
    nodes-next (g.B.RuleBook.book c.args.book.now) (cost_of c.args.costs.now) c.loop-node.node c.loop-node.best c.greatest_cost-best.result c.rules.result.now
    c.rules.ensures.rules c.loop-node.invariant c.greatest_cost-best.ensures.kept c.greatest_cost-best.ensures.most

pub returns-then-end-from-clause-ends : goal.returns-then-end-from-clause-ends
returns-then-end-from-clause-ends g c =
    let book = g.B.RuleBook.book c.args.book.now in
    let cost = cost_of c.args.costs.now in
    let best = c.loop-node.best in
    let max = c.args.max_size in
    let m = 2 ^ 64 - 1 in
    let e = not_capped m best c.times.result c.plus-end.result max (c.times.ensures ∙ ap (λ (n : ℕ). min (n * 64) m) c.from.ensures) c.plus-end.ensures (omega (arith, c.if-end-from.true, c.from-2.ensures)) (omega (arith, c.requires.max)) in
    let P : ℕ → Type 0 = λ s. EndsAt book cost max s in
    subst P (sym e) (ends-here book cost best (nodes-whole book cost c.loop-node.node best (omega (arith, c.loop-node-test.false, c.loop-node.auto.node-end, c.count-node-end.ensures.count)) c.loop-node.invariant) max)
