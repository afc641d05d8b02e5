use Rattle.std.proofs.Common.{◌≡◌, ◌++◌, length}
use Rattle.cls_session.specs.Driving.{PutsPart}
use Rattle.cls_session.specs.Sessions.{IsPrintableIn, reply_in}
use Rattle.cls_session.proofs.driver.put_reply.Given as goal

abbrev pub invariant-portions : goal.invariant-portions
invariant-portions g l = record {
  puts : PutsPart (g.K.Sink.seen l.initial.sink) (g.K.Sink.seen l.sink) (l.initial.pending ++ reply_in l.initial.session l.initial.left) l.pending (reply_in l.session l.left);
  same : l.session ≡ l.initial.session;
  printable : IsPrintableIn l.session l.left;
  faults : (g.K.Sink.seen l.sink).faults ≡ (g.K.Sink.seen l.initial.sink).faults;
}

abbrev pub decreases-portions : goal.decreases-portions
decreases-portions g l = length (reply_in l.session l.left)
