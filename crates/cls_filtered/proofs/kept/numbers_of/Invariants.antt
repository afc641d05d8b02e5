use Rattle.cls_filtered.proofs.Keeping.{NumbersTo}
use Rattle.cls_filtered.proofs.kept.numbers_of.Given as goal

abbrev pub invariant-loop-flag : goal.invariant-loop-flag
invariant-loop-flag l = NumbersTo l.flags l.flag-index l.numbers.items l.next
