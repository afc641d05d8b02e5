use Rattle.cls_cover.proofs.Words.{IsJoinedTo}
use Rattle.cls_cover.proofs.flags.join_words.Given as goal

abbrev pub invariant-loop-i : goal.invariant-loop-i
invariant-loop-i l = IsJoinedTo l.fn.once l.fn.met l.row l.i l.once l.met
