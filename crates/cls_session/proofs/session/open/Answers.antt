use Rattle.std.proofs.Common.{subst}
use Rattle.std.proofs.lemmas.Result.{err_from_is_err_and}
use Rattle.cls_base.specs.Firsts.{First, IsSilent}
use Rattle.cls_repo.specs.FaultWords.{IsSaid}
use Rattle.cls_repo.specs.Readings.{Reading, closing_faults}
use Rattle.cls_session.proofs.Opening.{costly}
use Rattle.cls_session.proofs.session.open.Goals as goal

pub new-requires-2-clause-costs : goal.new-requires-2-clause-costs
new-requires-2-clause-costs c = costly c.in_ok-repository.repository.costs c.in_ok-repository.ensures.whole.costly

pub returns-clause-silent : goal.returns-clause-silent
returns-clause-silent c =
    subst (λ (r : Reading). IsSilent (First (closing_faults r))) c.replace-read.ensures.value c.in_ok-repository.ensures.silent

pub returns-in_err-repository-clause-fault : goal.returns-in_err-repository-clause-fault
returns-in_err-repository-clause-fault c =
    let p = err_from_is_err_and c.from_residual.result c.from_residual.ensures.1 in
    rw (p.1, p.2) (subst (λ (r : Reading). IsSaid (First (closing_faults r)) c.in_err-repository.field-0.0) c.replace-read.ensures.value c.in_err-repository.ensures.fault)
