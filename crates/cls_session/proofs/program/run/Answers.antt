use Rattle.std.proofs.Common.{subst}
use Rattle.cls_session.specs.declared.words.Command.{Command}
use Rattle.cls_session.specs.Commands.{texts_of, Asks}
use Rattle.cls_session.proofs.CommandWords.{no_session}
use Rattle.cls_session.proofs.Outputs.{taken_begins, usage_fits, usage_keeps_pace}
use Rattle.cls_session.proofs.Asked.{session_room, session_answers, session_begins, session_taken, session_pace, generated_room, generated_answers, generated_begins, generated_pace}
use Rattle.cls_session.proofs.program.run.Goals as goal

-- A SESSION OVER THE INPUT

pub answer_input-requires-clause-room : goal.answer_input-requires-clause-room
answer_input-requires-clause-room g c κs within =
    let asked = subst (λ (k : Command). Asks (texts_of c.args.words.now) k) c.in-Ok-Session.field-0-is c.in-Ok-Session.ensures.asked in
    session_room (texts_of c.args.words.now) c.in-Ok-Session.options asked (g.S.Source.seen c.args.source.now) (g.K.Sink.seen c.args.sink.now) c.requires.room

pub returns-in-Ok-Session-clause-output : goal.returns-in-Ok-Session-clause-output
returns-in-Ok-Session-clause-output g c = λ whole.
    let asked = subst (λ (k : Command). Asks (texts_of c.args.words.now) k) c.in-Ok-Session.field-0-is c.in-Ok-Session.ensures.asked in
    session_answers (texts_of c.args.words.now) c.in-Ok-Session.options asked (g.S.Source.seen c.args.source.now) (g.K.Sink.seen c.args.sink.now) (g.K.Sink.seen c.answer_input.new.sink) c.answer_input.result (c.answer_input.ensures.output whole)

pub returns-in-Ok-Session-clause-begins_taken : goal.returns-in-Ok-Session-clause-begins_taken
returns-in-Ok-Session-clause-begins_taken g c = λ fault.
    let asked = subst (λ (k : Command). Asks (texts_of c.args.words.now) k) c.in-Ok-Session.field-0-is c.in-Ok-Session.ensures.asked in
    taken_begins (session_taken (texts_of c.args.words.now) c.in-Ok-Session.options asked (g.S.Source.seen c.args.source.now) (g.K.Sink.seen c.args.sink.now) (g.K.Sink.seen c.answer_input.new.sink) (g.S.Source.seen c.answer_input.new.source) (c.answer_input.ensures.none_waits fault))

pub returns-in-Ok-Session-clause-begins : goal.returns-in-Ok-Session-clause-begins
returns-in-Ok-Session-clause-begins g c = λ cut.
    let asked = subst (λ (k : Command). Asks (texts_of c.args.words.now) k) c.in-Ok-Session.field-0-is c.in-Ok-Session.ensures.asked in
    session_begins (texts_of c.args.words.now) c.in-Ok-Session.options asked (g.S.Source.seen c.args.source.now) (g.K.Sink.seen c.args.sink.now) (g.K.Sink.seen c.answer_input.new.sink) (c.answer_input.ensures.begins cut)

pub returns-in-Ok-Session-clause-keeps_pace : goal.returns-in-Ok-Session-clause-keeps_pace
returns-in-Ok-Session-clause-keeps_pace g c = λ broken.
    let asked = subst (λ (k : Command). Asks (texts_of c.args.words.now) k) c.in-Ok-Session.field-0-is c.in-Ok-Session.ensures.asked in
    session_pace (texts_of c.args.words.now) c.in-Ok-Session.options asked (g.S.Source.seen c.args.source.now) (g.K.Sink.seen c.args.sink.now) (g.K.Sink.seen c.answer_input.new.sink) (g.S.Source.seen c.answer_input.new.source) (c.answer_input.ensures.keeps_pace broken)

-- A SESSION OVER THE TEXT OF THE GENERATOR

pub answer_generated-requires-clause-room : goal.answer_generated-requires-clause-room
answer_generated-requires-clause-room g c κs within =
    let asked = subst (λ (k : Command). Asks (texts_of c.args.words.now) k) c.in-Ok-Generate.field-0-is c.in-Ok-Generate.ensures.asked in
    generated_room (texts_of c.args.words.now) c.in-Ok-Generate.options c.in-Ok-Generate.count asked (g.S.Source.seen c.args.source.now) (g.K.Sink.seen c.args.sink.now) c.requires.room

pub returns-in-Ok-Generate-clause-output : goal.returns-in-Ok-Generate-clause-output
returns-in-Ok-Generate-clause-output g c = λ whole.
    let asked = subst (λ (k : Command). Asks (texts_of c.args.words.now) k) c.in-Ok-Generate.field-0-is c.in-Ok-Generate.ensures.asked in
    generated_answers (texts_of c.args.words.now) c.in-Ok-Generate.options c.in-Ok-Generate.count asked (g.S.Source.seen c.args.source.now) (g.K.Sink.seen c.args.sink.now) (g.K.Sink.seen c.answer_generated.new.sink) c.answer_generated.result (c.answer_generated.ensures.output whole)

pub returns-in-Ok-Generate-clause-read_whole : goal.returns-in-Ok-Generate-clause-read_whole
returns-in-Ok-Generate-clause-read_whole g c = λ done session.
    let asked = subst (λ (k : Command). Asks (texts_of c.args.words.now) k) c.in-Ok-Generate.field-0-is c.in-Ok-Generate.ensures.asked in
    absurd (no_session (texts_of c.args.words.now) c.in-Ok-Generate.options session.0 c.in-Ok-Generate.count asked session.1)

pub returns-in-Ok-Generate-clause-begins : goal.returns-in-Ok-Generate-clause-begins
returns-in-Ok-Generate-clause-begins g c = λ cut.
    let asked = subst (λ (k : Command). Asks (texts_of c.args.words.now) k) c.in-Ok-Generate.field-0-is c.in-Ok-Generate.ensures.asked in
    generated_begins (texts_of c.args.words.now) c.in-Ok-Generate.options c.in-Ok-Generate.count asked (g.S.Source.seen c.args.source.now) (g.K.Sink.seen c.args.sink.now) (g.K.Sink.seen c.answer_generated.new.sink) (c.answer_generated.ensures.begins cut)

pub returns-in-Ok-Generate-clause-keeps_pace : goal.returns-in-Ok-Generate-clause-keeps_pace
returns-in-Ok-Generate-clause-keeps_pace g c = λ broken.
    let asked = subst (λ (k : Command). Asks (texts_of c.args.words.now) k) c.in-Ok-Generate.field-0-is c.in-Ok-Generate.ensures.asked in
    generated_pace (texts_of c.args.words.now) c.in-Ok-Generate.options c.in-Ok-Generate.count asked (g.S.Source.seen c.args.source.now) (g.K.Sink.seen c.args.sink.now) (g.K.Sink.seen c.answer_generated.new.sink)

-- THE USAGE LINE

pub write_all-requires : goal.write_all-requires
write_all-requires g c = rw c.as_bytes.ensures.value (usage_fits (texts_of c.args.words.now) (g.S.Source.seen c.args.source.now) (g.K.Sink.seen c.args.sink.now) c.requires.room c.in-Err.ensures.nothing_asked)

pub returns-clause-keeps_pace : goal.returns-clause-keeps_pace
returns-clause-keeps_pace g c = λ broken. usage_keeps_pace (texts_of c.args.words.now) (g.S.Source.seen c.args.source.now) (g.K.Sink.seen c.args.sink.now) (g.K.Sink.seen c.write_all.new.sink) c.in-Err.ensures.nothing_asked
