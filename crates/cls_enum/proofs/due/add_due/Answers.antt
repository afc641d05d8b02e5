use Rattle.std.proofs.Common.{arith, get_or}
use Rattle.cls_term.specs.Banks.{at}
use Rattle.cls_enum.proofs.Additions.{at_in}
use Rattle.cls_enum.proofs.due.add_due.Goals as goal

pub is_later-requires : goal.is_later-requires
is_later-requires c = record {
  sized = c.requires.sized (at c.args.bank.now (get_or c.args.numbers.now c.loop-number.number-index 0)) (at_in c.args.bank.now c.args.numbers.now c.loop-number.number-index (omega (arith, c.loop-number-test.true)));
}
