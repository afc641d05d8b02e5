use Rattle.std.proofs.Common.{arith, ◌+◌, ◌∙◌, ap, ℕ, length}
use Rattle.std.specs.Prelude.{option_copied}
use Rattle.cls_term.specs.Costs.{cost_of}
use Rattle.cls_enum.specs.Requests.{request}
use Rattle.cls_walk.specs.Counts.{total_below, up_below}
use Rattle.cls_walk.specs.Tables.{capped, number_at}
use Rattle.cls_walk.specs.Totals.{total_due}
use Rattle.cls_walk.proofs.RefusalSteps.{made-step, due-step, refused-here, up-known}
use Rattle.cls_walk.proofs.refusal.has_too_many.Goals as goal

pub returns-then-plus-pool : goal.returns-then-plus-pool
returns-then-plus-pool g c = λ _.
    let book = g.B.RuleBook.book c.args.book.now in
    let cost = cost_of c.args.costs.now in
    let s = c.loop-size.size in
    refused-here book (request c.args.costs.now (option_copied c.args.after) c.args.max_size c.args.take)
    (omega (arith, c.count-width.ensures.count, c.count-width.ensures.some))
    c.requires.costs c.requires.ordered s c.args.pool c.loop-size.made c.loop-size.due c.get.result c.plus.result c.add_lower.new.table
    (omega (arith, c.loop-size-test.true, c.loop-size.auto.size-end, c.last_sure-last.ensures))
    (c.in_ok-add_lower.ensures.1 s 0)
    c.loop-size.invariant.made
    (c.loop-size.invariant.due ∙ ap (λ (k : ℕ). capped (total_due (up_below book cost s) k s)) c.size_of_cursor-from.ensures)
    c.loop-size.invariant.few
    (omega (arith, c.ranges.take.fits))
    c.get.ensures
    c.plus.ensures
    c.if-plus-pool.true

pub loop-size-preserved : goal.loop-size-preserved
loop-size-preserved g c =
    let book = g.B.RuleBook.book c.args.book.now in
    let cost = cost_of c.args.costs.now in
    let s = c.loop-size.size in
    let lo = c.add_lower.new.table in
    record {
      up = c.in_ok-reach.ensures.upper;
      near = omega (arith, c.in_ok-reach.ensures.reached);
      lo = c.in_ok-add_lower.ensures;
      made = made-step book cost s (length book) c.loop-size.made c.column_total.result c.plus-made.result lo (c.in_ok-add_lower.ensures.1 s) c.loop-size.invariant.made
          (c.column_total.ensures ∙ ap (λ (w : ℕ). capped (total_below w (λ n. number_at lo s n))) c.count-width.ensures.count)
          c.plus-made.ensures;
      due = due-step book cost s c.size_of_cursor-from.result c.loop-size.due c.due_of.result c.plus-due.result c.reach.new.counted.table
          (c.in_ok-reach.ensures.upper.1 s 0 ∙ ap capped (up-known book cost (c.reach.new.counted.last + 1) s 0 (omega (arith, c.in_ok-reach.ensures.reached))))
          c.loop-size.invariant.due c.due_of.ensures c.plus-due.ensures;
      few = omega (arith, c.if-due-from.false, c.from.ensures);
    }
