use Rattle.std.proofs.Common.{◌≡◌, ◌+◌, ◌≤◌, ◌++◌, length}
use Rattle.cls_session.specs.Driving.{AnswersPending}
use Rattle.cls_session.specs.SessionStates.{lines_of_session}
use Rattle.cls_session.proofs.driver.collect_replies.Given as goal

abbrev pub invariant-lines : goal.invariant-lines
invariant-lines g l = record {
  answered : AnswersPending (g.K.Sink.seen l.initial.sink) (g.K.Sink.seen l.sink) l.initial.session l.session (l.initial.reader ++ l.piece) (l.reader ++ l.rest) l.pending;
  few_lines : lines_of_session l.session + length (l.reader ++ l.rest) ≤ lines_of_session l.initial.session + length (l.initial.reader ++ l.piece);
  faults : (g.K.Sink.seen l.sink).faults ≡ (g.K.Sink.seen l.initial.sink).faults;
}

abbrev pub decreases-lines : goal.decreases-lines
decreases-lines g l = length (l.reader ++ l.rest)
