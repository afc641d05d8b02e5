use Rattle.std.proofs.Common.{arith}
use Rattle.cls_table.proofs.shared.SharedTable.start.Goals as goal

pub invariant_of-result : goal.invariant_of-result
invariant_of-result g c = record {
  tag = _;
  knows = c.in_ok-turn.ensures.knows;
  worker_named = omega arith;
  some_part = omega (arith, c.open-book.ensures.parts, c.requires.part_each);
}
