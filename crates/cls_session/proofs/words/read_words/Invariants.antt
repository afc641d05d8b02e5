use Rattle.std.proofs.Common.{length}
use Rattle.cls_session.specs.Commands.{texts_of}
use Rattle.cls_session.proofs.CommandWords.{IsReadUpTo}
use Rattle.cls_session.proofs.words.read_words.Given as goal

abbrev pub invariant-loop-rest : goal.invariant-loop-rest
invariant-loop-rest l = IsReadUpTo (texts_of l.initial.words) (texts_of l.rest) l.values

abbrev pub decreases-loop-rest : goal.decreases-loop-rest
decreases-loop-rest l = length l.rest
