use Rattle.std.proofs.Common.{◌≡◌, ◌+◌, ◌-◌, ◌≤◌, length}
use Rattle.cls_base.specs.Limits.{max_input_bytes}
use Rattle.cls_session.proofs.InputLoop.{IsUnderWay}
use Rattle.cls_session.specs.SessionStates.{lines_of_session}
use Rattle.cls_session.proofs.program.answer_input.Given as goal

abbrev pub invariant-pieces : goal.invariant-pieces
invariant-pieces g l = record {
  under_way : IsUnderWay l.fn.options (g.S.Source.seen l.initial.source) (g.S.Source.seen l.source) (g.K.Sink.seen l.initial.sink) (g.K.Sink.seen l.sink) l.session l.reader l.taken;
  short : l.taken ≤ max_input_bytes;
  few_lines : lines_of_session l.session + length l.reader ≤ l.taken;
  source_faults : (g.S.Source.seen l.source).faults ≡ (g.S.Source.seen l.initial.source).faults;
  sink_faults : (g.K.Sink.seen l.sink).faults ≡ (g.K.Sink.seen l.initial.sink).faults;
}

abbrev pub decreases-pieces : goal.decreases-pieces
decreases-pieces g l = max_input_bytes - l.taken
