use Rattle.std.proofs.Common.{◌≡◌, ◌+◌, ◌<◌, ◌≤◌, ◌++◌, ℕ, List, length, map, ap, ◌∙◌, arith}
use Rattle.cls_base.specs.declared.rule.Rule.{Rule}
use Rattle.cls_filtered.specs.Stepwise.{lasts_in, parts_in}
use Rattle.cls_filtered.specs.StepBooks.{step_rule, part_node}
use Rattle.cls_filtered.proofs.StepBooks.{stepped-none, stepped-more, stepped-all, stepped-book}
use Rattle.cls_filtered.proofs.step_book.StepBook.of_book.Goals as goal

pub loop-node-init : goal.loop-node-init
loop-node-init g c =
    stepped-none (g.B.RuleBook.book c.args.book.now) c.count-count.result c.new-lasts.result.items c.in_ok-ends.ends.items c.new-parts.result.items c.new-lasts.ensures.items c.in_ok-ends.ensures.items c.new-parts.ensures.items (omega (arith, c.count-count.type_inv))

pub put_rules-requires : goal.put_rules-requires
put_rules-requires g c = c.loop-node.invariant.few

pub loop-node-preserved : goal.loop-node-preserved
loop-node-preserved g c =
    let book = g.B.RuleBook.book c.args.book.now in
    let i = c.loop-node.node in
    let within : i < length book = omega (arith, c.loop-node-test.true, c.count-count.ensures.count) in
    let k = c.count-count.result + length c.loop-node.parts.items in
    let lasts = c.put_rules.new.lasts.items in
    let parts = c.put_rules.new.parts.items in
    let end : c.in_ok-end.end ≡ length lasts = omega (arith, c.in_ok-end.ensures, c.len.ensures, c.put_rules.new.lasts.ok.0) in
    stepped-more book c.count-count.result i c.loop-node.lasts.items c.loop-node.ends.items c.loop-node.parts.items lasts c.in_ok-end.end c.push.new.self.items parts c.loop-node.invariant within
    (c.in_ok-put_rules.ensures.lasts ∙ ap (λ (rs : List (Rule ℕ)). map step_rule c.loop-node.lasts.items ++ lasts_in k rs) c.rules.ensures.rules)
    (c.in_ok-put_rules.ensures.parts ∙ ap (λ (rs : List (Rule ℕ)). map part_node c.loop-node.parts.items ++ parts_in k rs) c.rules.ensures.rules)
    c.in_ok-put_rules.ensures.few end c.in_ok-push.ensures.items c.rules.ensures.within

pub invariant_of-result : goal.invariant_of-result
invariant_of-result g c =
    let h = c.loop-node.invariant in
    (h.column, omega (arith, h.counted, h.few, c.loop-node-test.false, c.loop-node.auto.node-end))

pub returns-clause-steps : goal.returns-clause-steps
returns-clause-steps g c =
    let book = g.B.RuleBook.book c.args.book.now in
    let past : length book ≤ c.loop-node.node = omega (arith, c.loop-node-test.false, c.count-count.ensures.count) in
    stepped-all book c.count-count.result c.loop-node.node c.loop-node.lasts.items c.loop-node.ends.items c.loop-node.parts.items c.loop-node.invariant past c.count-count.ensures.count

pub returns-clause-book : goal.returns-clause-book
returns-clause-book g c =
    let book = g.B.RuleBook.book c.args.book.now in
    let past : length book ≤ c.loop-node.node = omega (arith, c.loop-node-test.false, c.count-count.ensures.count) in
    let some : 1 ≤ length book = omega (arith, c.count-count.ensures.count, c.count-count.ensures.some) in
    stepped-book book c.count-count.result c.loop-node.node c.loop-node.lasts.items c.loop-node.ends.items c.loop-node.parts.items c.loop-node.invariant past some
