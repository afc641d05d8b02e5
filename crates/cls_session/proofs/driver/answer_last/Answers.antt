use Rattle.std.proofs.lemmas.Result.{err_from_is_err_and}
use Rattle.cls_session.proofs.Breaks.{stops_last}
use Rattle.cls_session.proofs.LastLines.{last_fits, answers_last, none_last}
use Rattle.cls_session.proofs.driver.answer_last.Goals as goal

pub answer_line-requires-clause-room : goal.answer_line-requires-clause-room
answer_line-requires-clause-room g c = λ lives within. last_fits c.in-Some.ensures.lines c.requires.room

pub returns-in-None-clause-answers : goal.returns-in-None-clause-answers
returns-in-None-clause-answers g c = none_last (g.K.Sink.seen c.args.sink.now) c.args.session.now c.args.reader c.in-None.ensures.lines

pub returns-in_ok-answer_line-in-Some-clause-answers : goal.returns-in_ok-answer_line-in-Some-clause-answers
returns-in_ok-answer_line-in-Some-clause-answers g c = answers_last c.in-Some.ensures.lines c.in_ok-answer_line-in-Some.ensures.answers

pub returns-in_err-answer_line-in-Some-clause-answers : goal.returns-in_err-answer_line-in-Some-clause-answers
returns-in_err-answer_line-in-Some-clause-answers g c =
    let p = err_from_is_err_and c.from_residual.result c.from_residual.ensures.1 in
    rw (p.1, p.2) (stops_last c.in-Some.line c.args.reader c.in-Some.ensures.lines _ _ _ c.args.session.now c.answer_line.new.session _ c.in_err-answer_line-in-Some.ensures.answers)
