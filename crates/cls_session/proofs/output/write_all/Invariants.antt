use Rattle.std.proofs.Common.{◌≡◌, length}
use Rattle.cls_session.specs.Driving.{WritesAllBut}
use Rattle.cls_session.proofs.output.write_all.Given as goal

abbrev pub invariant-loop-rest : goal.invariant-loop-rest
invariant-loop-rest g l = record {
  part : WritesAllBut (g.K.Sink.seen l.initial.sink) (g.K.Sink.seen l.sink) l.text l.rest;
  faults : (g.K.Sink.seen l.sink).faults ≡ (g.K.Sink.seen l.initial.sink).faults;
}

abbrev pub decreases-loop-rest : goal.decreases-loop-rest
decreases-loop-rest g l = length l.rest
