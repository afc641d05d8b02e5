use Rattle.std.proofs.lemmas.Result.{err_from_is_err_and}
use Rattle.cls_session.proofs.Breaks.{breaks_unended, breaks_ending}
use Rattle.cls_session.proofs.LastLines.{outcome_fits, ends_output}
use Rattle.cls_session.proofs.driver.finish.Goals as goal

pub write_all-requires : goal.write_all-requires
write_all-requires g c = rw c.as_bytes.ensures.value (outcome_fits c.in_ok-answer_last.ensures.answers _ _ c.in_ok-outcome.ensures c.requires.room)

pub returns-clause-answers : goal.returns-clause-answers
returns-clause-answers g c = ends_output c.in_ok-answer_last.ensures.answers _ _ c.in_ok-outcome.ensures (rw c.as_bytes.ensures.value at c.in_ok-write_all.ensures.written)

pub returns-in_err-outcome-clause-answers : goal.returns-in_err-outcome-clause-answers
returns-in_err-outcome-clause-answers g c =
    let p = err_from_is_err_and c.from_residual-in_err-outcome.result c.from_residual-in_err-outcome.ensures.1 in
    rw (p.1, p.2) (breaks_unended c.in_ok-answer_last.ensures.answers)

pub returns-in_err-write_all-clause-answers : goal.returns-in_err-write_all-clause-answers
returns-in_err-write_all-clause-answers g c =
    let p = err_from_is_err_and c.from_residual-in_err-write_all.result c.from_residual-in_err-write_all.ensures.1 in
    rw (p.1, p.2) (breaks_ending c.in_ok-answer_last.ensures.answers _ _ c.in_ok-outcome.ensures (rw c.as_bytes.ensures.value at c.in_err-write_all.ensures.front))
