use Rattle.std.proofs.Common.{arith, ◌<◌, ◌+◌, ◌∙◌, ap, ℕ, length}
use Rattle.std.specs.Prelude.{option_copied}
use Rattle.cls_term.specs.Costs.{cost_of}
use Rattle.cls_enum.specs.Requests.{request}
use Rattle.cls_walk.specs.Counts.{total_below, up_below}
use Rattle.cls_walk.specs.Tables.{capped, number_at}
use Rattle.cls_walk.specs.Totals.{total_due}
use Rattle.cls_walk.proofs.ApartCounts.{apart-ordered, exact-at}
use Rattle.cls_walk.proofs.RefusalSteps.{made-step, due-step, refused-here, up-known}
use Rattle.cls_walk.proofs.refusal.is_over.Goals as goal

pub returns-then-plus-pool : goal.returns-then-plus-pool
returns-then-plus-pool g c = λ _.
    let book = g.B.RuleBook.book c.args.book.now in
    let cost = cost_of c.args.costs.now in
    let s = c.loop-size.size in
    let counted = c.args.counted.now in
    let known : s < counted.last + 1 = omega (arith, c.loop-size-test.true, c.loop-size.auto.size-end) in
    let short = c.requires.short in
    let last = c.requires.last in
    refused-here book (request c.args.costs.now (option_copied c.args.after) c.args.max_size c.args.take)
    (omega (arith, c.count-width.ensures.count, c.count-width.ensures.some))
    c.requires.costs (apart-ordered book c.requires.apart) s c.args.pool c.loop-size.made c.loop-size.due c.get.result c.plus.result counted.table
    (omega (arith, known, last))
    (exact-at book cost c.requires.apart (counted.last + 1) s counted.table c.requires.upper known (omega (arith, known, short)) 0)
    c.loop-size.invariant.made
    (c.loop-size.invariant.due ∙ ap (λ (k : ℕ). capped (total_due (up_below book cost s) k s)) c.size_of_cursor-from.ensures)
    c.loop-size.invariant.few
    (omega (arith, c.ranges.take.fits))
    c.get.ensures
    c.plus.ensures
    c.if-plus-pool.true

pub loop-size-preserved : goal.loop-size-preserved
loop-size-preserved g c =
    let book = g.B.RuleBook.book c.args.book.now in
    let cost = cost_of c.args.costs.now in
    let s = c.loop-size.size in
    let counted = c.args.counted.now in
    let table = counted.table in
    let known : s < counted.last + 1 = omega (arith, c.loop-size-test.true, c.loop-size.auto.size-end) in
    let short = c.requires.short in
    record {
      made = made-step book cost s (length book) c.loop-size.made c.column_total.result c.plus-made.result table
          (exact-at book cost c.requires.apart (counted.last + 1) s table c.requires.upper known (omega (arith, known, short)))
          c.loop-size.invariant.made
          (c.column_total.ensures ∙ ap (λ (w : ℕ). capped (total_below w (λ n. number_at table s n))) c.count-width.ensures.count)
          c.plus-made.ensures;
      due = due-step book cost s c.size_of_cursor-from.result c.loop-size.due c.due_of.result c.plus-due.result table
          (c.requires.upper.1 s 0 ∙ ap capped (up-known book cost (counted.last + 1) s 0 known))
          c.loop-size.invariant.due c.due_of.ensures c.plus-due.ensures;
      few = omega (arith, c.if-due-from.false, c.from.ensures);
    }
