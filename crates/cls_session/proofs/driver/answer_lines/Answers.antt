use Rattle.std.proofs.Common.{◌≡◌}
use Rattle.std.specs.Prelude.{Err}
use Rattle.std.proofs.lemmas.Result.{err_from_is_err_and}
use Rattle.cls_session.specs.declared.driver.Stop.TheVariants.{WriteFault}
use Rattle.cls_session.proofs.Pending.{leaves_replies, fits_left, breaks_left, answers_left}
use Rattle.cls_session.proofs.driver.answer_lines.Goals as goal

pub write-requires : goal.write-requires
write-requires g c =
    let sound : c.collect_replies-answered.result ≡ Err WriteFault → ⊥ = λ is. (let failed = rw is at c.if-eq.ensures in cc) in
    fits_left (leaves_replies _ _ _ _ _ c.collect_replies-answered.result sound c.collect_replies-answered.ensures.answers) c.requires.room

pub returns-clause-answers : goal.returns-clause-answers
returns-clause-answers g c =
    let sound : c.collect_replies-answered.result ≡ Err WriteFault → ⊥ = λ is. (let failed = rw is at c.if-eq.ensures in cc) in
    answers_left _ _ _ _ _ c.collect_replies-answered.result sound c.collect_replies-answered.ensures.answers c.in_ok-write.ensures.written

pub returns-in_err-write-clause-answers : goal.returns-in_err-write-clause-answers
returns-in_err-write-clause-answers g c =
    let sound : c.collect_replies-answered.result ≡ Err WriteFault → ⊥ = λ is. (let failed = rw is at c.if-eq.ensures in cc) in
    let p = err_from_is_err_and c.from_residual.result c.from_residual.ensures.1 in
    rw (p.1, p.2) (breaks_left (leaves_replies _ _ _ _ _ c.collect_replies-answered.result sound c.collect_replies-answered.ensures.answers) c.in_err-write.ensures.front)
