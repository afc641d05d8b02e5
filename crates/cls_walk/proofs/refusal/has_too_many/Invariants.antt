use Rattle.std.proofs.Common.{◌≡◌, ◌+◌, ◌≤◌, length}
use Rattle.cls_term.specs.Costs.{cost_of}
use Rattle.cls_walk.specs.Bounds.{HasLower, HasUpper}
use Rattle.cls_walk.specs.Counts.{up_below, lo_below}
use Rattle.cls_walk.specs.Tables.{capped}
use Rattle.cls_walk.specs.Totals.{total_made, total_due}
use Rattle.cls_walk.proofs.refusal.has_too_many.Given as goal

abbrev pub invariant-loop-size : goal.invariant-loop-size
invariant-loop-size g l =
    let book = g.B.RuleBook.book l.book in
    let cost = cost_of l.costs in
    record {
      up : HasUpper book cost (l.counted.last + 1) l.counted.table;
      near : l.size ≤ l.counted.last + 1;
      lo : HasLower book cost l.size l.lower;
      made : l.made ≡ capped (total_made (lo_below book cost l.size) (length book) l.size);
      due : l.due ≡ capped (total_due (up_below book cost l.size) l.from l.size);
      few : l.due ≤ l.take;
    }
