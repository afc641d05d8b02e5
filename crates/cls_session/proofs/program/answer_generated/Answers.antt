use Rattle.std.proofs.Common.{◌≡◌, ◌∙◌, ap}
use Rattle.cls_session.specs.Generators.{generated_text}
use Rattle.cls_session.proofs.Asked.{told_room, told_answers, told_begins, none_begins}
use Rattle.cls_session.proofs.program.answer_generated.Goals as goal

pub answer_input-requires-clause-room : goal.answer_input-requires-clause-room
answer_input-requires-clause-room g c κs within =
    let e : c.new-source.result.left ≡ generated_text c.args.count = ap (λ s. s.left) c.new-source.ensures ∙ (rw (c.into_bytes.ensures.value) c.in-Ok.ensures) in
    told_room c.args.options c.new-source.result.left (generated_text c.args.count) e (g.K.Sink.seen c.args.sink.now) c.requires.room

pub returns-in-Ok-clause-output : goal.returns-in-Ok-clause-output
returns-in-Ok-clause-output g c = λ whole.
    let e : c.new-source.result.left ≡ generated_text c.args.count = ap (λ s. s.left) c.new-source.ensures ∙ (rw (c.into_bytes.ensures.value) c.in-Ok.ensures) in
    told_answers c.args.options c.new-source.result.left (generated_text c.args.count) e (g.K.Sink.seen c.args.sink.now) (g.K.Sink.seen c.answer_input.new.sink) c.answer_input.result (c.answer_input.ensures.output whole)

pub returns-in-Ok-clause-begins : goal.returns-in-Ok-clause-begins
returns-in-Ok-clause-begins g c = λ cut.
    let e : c.new-source.result.left ≡ generated_text c.args.count = ap (λ s. s.left) c.new-source.ensures ∙ (rw (c.into_bytes.ensures.value) c.in-Ok.ensures) in
    told_begins c.args.options c.new-source.result.left (generated_text c.args.count) e (g.K.Sink.seen c.args.sink.now) (g.K.Sink.seen c.answer_input.new.sink) (c.answer_input.ensures.begins cut)

pub returns-in-Err-clause-begins : goal.returns-in-Err-clause-begins
returns-in-Err-clause-begins g c = λ cut. none_begins c.args.options (generated_text c.args.count) (g.K.Sink.seen c.args.sink.now)
