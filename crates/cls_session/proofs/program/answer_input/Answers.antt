use Rattle.std.proofs.Common.{◌≡◌, ◌+◌, ◌≤◌, length-append, length, arith, refl, ap, ◌∙◌, subst}
use Rattle.cls_base.specs.Limits.{max_input_bytes}
use Rattle.cls_session.specs.Outputs.{IsWhole}
use Rattle.cls_session.proofs.InputLoop.{IsUnderWay, cut_piece, none_read, none_more, last_has_room, answers_end, answers_last_stopped, begins_last_stopped, last_stopped_keeps_pace, end_status, end_is_whole, end_is_not_cut_off, end_is_not_broken_off, end_is_no_usage, piece_has_room, answers_stopped, begins_stopped, stopped_keeps_pace, answers_too_long, answers_taken, piece_answered}
use Rattle.cls_session.proofs.Lengths.{some_over, none_over}
use Rattle.cls_session.proofs.Outputs.{taken_keeps_pace}
use Rattle.cls_session.proofs.program.answer_input.Goals as goal

pub pieces-init : goal.pieces-init
pieces-init g c = record {
  under_way = none_read c.args.options (g.S.Source.seen c.args.source.now) (g.K.Sink.seen c.args.sink.now) c.new-session.result c.new-reader.result c.new-session.ensures.stands c.new-reader.ensures;
  short = omega arith;
  few_lines = (let lines = c.new-session.ensures.empty in let bytes = ap length c.new-reader.ensures in omega arith);
  source_faults = refl;
  sink_faults = refl;
}

-- A READ FAILED

pub returns-in_default-clause-none_waits : goal.returns-in_default-clause-none_waits
returns-in_default-clause-none_waits g c = λ fault. answers_taken c.pieces.invariant.under_way (g.S.Source.seen c.read.new.self) c.pieces.invariant.short c.in_default.ensures.none_read

pub returns-in_default-clause-keeps_pace : goal.returns-in_default-clause-keeps_pace
returns-in_default-clause-keeps_pace g c = λ fault. taken_keeps_pace c.args.options (g.S.Source.seen c.args.source.now) (g.S.Source.seen c.read.new.self) (g.K.Sink.seen c.args.sink.now) (g.K.Sink.seen c.pieces.sink) (answers_taken c.pieces.invariant.under_way (g.S.Source.seen c.read.new.self) c.pieces.invariant.short c.in_default.ensures.none_read)

-- THE END OF THE INPUT

pub finish-requires-clause-room : goal.finish-requires-clause-room
finish-requires-clause-room g c κs within =
    let u = none_more (g.S.Source.seen c.read.new.self) c.in-Ok.count c.read.new.into c.pieces.invariant.under_way c.if-count-eq0.true c.in-Ok.ensures.bytes in
    let at_end = c.in-Ok.ensures.end c.if-count-eq0.true (omega arith) in
    last_has_room u c.pieces.invariant.short at_end c.requires.room

pub returns-in-Ok-finish-clause-output : goal.returns-in-Ok-finish-clause-output
returns-in-Ok-finish-clause-output g c = λ whole.
    let u = none_more (g.S.Source.seen c.read.new.self) c.in-Ok.count c.read.new.into c.pieces.invariant.under_way c.if-count-eq0.true c.in-Ok.ensures.bytes in
    let at_end = c.in-Ok.ensures.end c.if-count-eq0.true (omega arith) in
    answers_end u c.pieces.invariant.short at_end c.in-Ok-finish.ensures.answers

pub returns-in-Ok-finish-clause-read_whole : goal.returns-in-Ok-finish-clause-read_whole
returns-in-Ok-finish-clause-read_whole g c = λ done. c.in-Ok.ensures.end c.if-count-eq0.true (omega arith)

pub returns-in-Ok-finish-clause-never_usage : goal.returns-in-Ok-finish-clause-never_usage
returns-in-Ok-finish-clause-never_usage g c = end_is_no_usage c.in-Ok-finish.status (end_status c.pieces.invariant.under_way c.in-Ok-finish.ensures.answers)

pub returns-in-Ok-finish-clause-none_waits : goal.returns-in-Ok-finish-clause-none_waits
returns-in-Ok-finish-clause-none_waits g c = λ fault. absurd (subst IsWhole fault (end_is_whole c.in-Ok-finish.status (end_status c.pieces.invariant.under_way c.in-Ok-finish.ensures.answers)))

pub returns-in-Ok-finish-clause-read_fault : goal.returns-in-Ok-finish-clause-read_fault
returns-in-Ok-finish-clause-read_fault g c = λ fault. absurd (subst IsWhole fault (end_is_whole c.in-Ok-finish.status (end_status c.pieces.invariant.under_way c.in-Ok-finish.ensures.answers)))

pub returns-in-Ok-finish-clause-write_fault : goal.returns-in-Ok-finish-clause-write_fault
returns-in-Ok-finish-clause-write_fault g c = λ fault. absurd (subst IsWhole fault (end_is_whole c.in-Ok-finish.status (end_status c.pieces.invariant.under_way c.in-Ok-finish.ensures.answers)))

pub returns-in-Ok-finish-clause-begins : goal.returns-in-Ok-finish-clause-begins
returns-in-Ok-finish-clause-begins g c = λ cut. absurd (end_is_not_cut_off c.in-Ok-finish.status (end_status c.pieces.invariant.under_way c.in-Ok-finish.ensures.answers) cut)

pub returns-in-Ok-finish-clause-keeps_pace : goal.returns-in-Ok-finish-clause-keeps_pace
returns-in-Ok-finish-clause-keeps_pace g c = λ broken. absurd (end_is_not_broken_off c.in-Ok-finish.status (end_status c.pieces.invariant.under_way c.in-Ok-finish.ensures.answers) broken)

pub returns-in-Err-clause-output : goal.returns-in-Err-clause-output
returns-in-Err-clause-output g c =
    let u = none_more (g.S.Source.seen c.read.new.self) c.in-Ok.count c.read.new.into c.pieces.invariant.under_way c.if-count-eq0.true c.in-Ok.ensures.bytes in
    let at_end = c.in-Ok.ensures.end c.if-count-eq0.true (omega arith) in
    answers_last_stopped u c.pieces.invariant.short at_end (g.K.Sink.seen c.finish.new.sink) c.in-Err.stop c.into.result c.in-Err.ensures.answers c.into.ensures

pub returns-in-Err-clause-begins : goal.returns-in-Err-clause-begins
returns-in-Err-clause-begins g c =
    let u = none_more (g.S.Source.seen c.read.new.self) c.in-Ok.count c.read.new.into c.pieces.invariant.under_way c.if-count-eq0.true c.in-Ok.ensures.bytes in
    let at_end = c.in-Ok.ensures.end c.if-count-eq0.true (omega arith) in
    begins_last_stopped u c.pieces.invariant.short at_end (g.K.Sink.seen c.finish.new.sink) c.in-Err.stop c.into.result c.in-Err.ensures.answers c.into.ensures

pub returns-in-Err-clause-keeps_pace : goal.returns-in-Err-clause-keeps_pace
returns-in-Err-clause-keeps_pace g c =
    let u = none_more (g.S.Source.seen c.read.new.self) c.in-Ok.count c.read.new.into c.pieces.invariant.under_way c.if-count-eq0.true c.in-Ok.ensures.bytes in
    let at_end = c.in-Ok.ensures.end c.if-count-eq0.true (omega arith) in
    last_stopped_keeps_pace u c.pieces.invariant.short at_end (g.K.Sink.seen c.finish.new.sink) c.in-Err.stop c.into.result c.in-Err.ensures.answers c.into.ensures

-- A PIECE, AND BYTES THAT ARE TOO MANY

pub answer_lines-requires-clause-room : goal.answer_lines-requires-clause-room
answer_lines-requires-clause-room g c κs within =
    let p = cut_piece (g.S.Source.seen c.pieces.source) (g.S.Source.seen c.read.new.self) c.read.new.into _ _ c.in-Ok.count c.min.result c.split_at.ensures.front c.split_at.ensures.back c.in-Ok.ensures.bytes c.in-Ok.ensures.last c.in-Ok.ensures.within in
    let short : c.pieces.taken + length c.split_at.result.0.now ≤ max_input_bytes = omega (arith, c.split_at.ensures.front_len, c.min.ensures, c.pieces.invariant.short) in
    piece_has_room c.pieces.invariant.under_way p short c.requires.room

pub returns-in-Err-answer_lines-clause-output : goal.returns-in-Err-answer_lines-clause-output
returns-in-Err-answer_lines-clause-output g c =
    let p = cut_piece (g.S.Source.seen c.pieces.source) (g.S.Source.seen c.read.new.self) c.read.new.into _ _ c.in-Ok.count c.min.result c.split_at.ensures.front c.split_at.ensures.back c.in-Ok.ensures.bytes c.in-Ok.ensures.last c.in-Ok.ensures.within in
    let short : c.pieces.taken + length c.split_at.result.0.now ≤ max_input_bytes = omega (arith, c.split_at.ensures.front_len, c.min.ensures, c.pieces.invariant.short) in
    answers_stopped c.pieces.invariant.under_way p short _ (g.K.Sink.seen c.answer_lines.new.sink) c.answer_lines.new.session c.answer_lines.new.reader
    c.in-Err-answer_lines.stop c.into-in-Err-answer_lines.result c.in-Err-answer_lines.ensures.answers c.into-in-Err-answer_lines.ensures

pub returns-in-Err-answer_lines-clause-begins : goal.returns-in-Err-answer_lines-clause-begins
returns-in-Err-answer_lines-clause-begins g c =
    let p = cut_piece (g.S.Source.seen c.pieces.source) (g.S.Source.seen c.read.new.self) c.read.new.into _ _ c.in-Ok.count c.min.result c.split_at.ensures.front c.split_at.ensures.back c.in-Ok.ensures.bytes c.in-Ok.ensures.last c.in-Ok.ensures.within in
    let short : c.pieces.taken + length c.split_at.result.0.now ≤ max_input_bytes = omega (arith, c.split_at.ensures.front_len, c.min.ensures, c.pieces.invariant.short) in
    begins_stopped c.pieces.invariant.under_way p short _ (g.K.Sink.seen c.answer_lines.new.sink) c.answer_lines.new.session c.answer_lines.new.reader
    c.in-Err-answer_lines.stop c.into-in-Err-answer_lines.result c.in-Err-answer_lines.ensures.answers c.into-in-Err-answer_lines.ensures

pub returns-in-Err-answer_lines-clause-keeps_pace : goal.returns-in-Err-answer_lines-clause-keeps_pace
returns-in-Err-answer_lines-clause-keeps_pace g c =
    let p = cut_piece (g.S.Source.seen c.pieces.source) (g.S.Source.seen c.read.new.self) c.read.new.into _ _ c.in-Ok.count c.min.result c.split_at.ensures.front c.split_at.ensures.back c.in-Ok.ensures.bytes c.in-Ok.ensures.last c.in-Ok.ensures.within in
    let short : c.pieces.taken + length c.split_at.result.0.now ≤ max_input_bytes = omega (arith, c.split_at.ensures.front_len, c.min.ensures, c.pieces.invariant.short) in
    stopped_keeps_pace c.pieces.invariant.under_way p short _ (g.K.Sink.seen c.answer_lines.new.sink) c.answer_lines.new.session c.answer_lines.new.reader
    c.in-Err-answer_lines.stop c.into-in-Err-answer_lines.result c.in-Err-answer_lines.ensures.answers c.into-in-Err-answer_lines.ensures (omega (arith, c.in-Ok.ensures.within))

pub returns-then-not-is_empty-clause-output : goal.returns-then-not-is_empty-clause-output
returns-then-not-is_empty-clause-output g c = λ whole.
    let p = cut_piece (g.S.Source.seen c.pieces.source) (g.S.Source.seen c.read.new.self) c.read.new.into _ _ c.in-Ok.count c.min.result c.split_at.ensures.front c.split_at.ensures.back c.in-Ok.ensures.bytes c.in-Ok.ensures.last c.in-Ok.ensures.within in
    let short : c.pieces.taken + length c.split_at.result.0.now ≤ max_input_bytes = omega (arith, c.split_at.ensures.front_len, c.min.ensures, c.pieces.invariant.short) in
    let some = some_over (length c.split_at.result.1.now) c.if-not-is_empty.ensures in
    answers_too_long c.pieces.invariant.under_way p short c.in_default-answer_lines.ensures.answers c.in_default-answer_lines.ensures.no_feed
    (omega (arith, some, p.lengths, c.split_at.ensures.front_len, c.min.ensures, c.pieces.invariant.short)) some

pub pieces-preserved : goal.pieces-preserved
pieces-preserved g c =
    let p = cut_piece (g.S.Source.seen c.pieces.source) (g.S.Source.seen c.read.new.self) c.read.new.into _ _ c.in-Ok.count c.min.result c.split_at.ensures.front c.split_at.ensures.back c.in-Ok.ensures.bytes c.in-Ok.ensures.last c.in-Ok.ensures.within in
    let short : c.pieces.taken + length c.split_at.result.0.now ≤ max_input_bytes = omega (arith, c.split_at.ensures.front_len, c.min.ensures, c.pieces.invariant.short) in
    let none = none_over c.split_at.result.1.now c.if-not-is_empty.ensures in
    let whole : length c.split_at.result.0.now ≡ c.in-Ok.count = (let e = ap length none in omega (arith, e, p.lengths)) in
    let next = piece_answered c.pieces.invariant.under_way p short c.in_default-answer_lines.ensures.answers c.in_default-answer_lines.ensures.no_feed none in
    record {
      under_way = subst (λ n. IsUnderWay c.args.options (g.S.Source.seen c.args.source.now) (g.S.Source.seen c.read.new.self) (g.K.Sink.seen c.args.sink.now) (g.K.Sink.seen c.answer_lines.new.sink) c.answer_lines.new.session c.answer_lines.new.reader (c.pieces.taken + n)) whole next;
      short = omega (arith, short, whole);
      few_lines = (let a = length-append c.pieces.reader c.split_at.result.0.now in omega (arith, a, whole, c.in_default-answer_lines.ensures.counted, c.pieces.invariant.few_lines));
      source_faults = c.in-Ok.ensures.no_fault ∙ c.pieces.invariant.source_faults;
      sink_faults = c.in_default-answer_lines.ensures.faults ∙ c.pieces.invariant.sink_faults;
    }
