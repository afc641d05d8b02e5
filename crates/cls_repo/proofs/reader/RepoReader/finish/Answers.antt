use Rattle.std.specs.Prelude.{OnOk, IfErr}
use Rattle.std.proofs.Common.{◌≡◌, Bool, true, false, not, refl, sym, subst}
use Rattle.std.proofs.lemmas.Result.{on_ok_weaker, IfOk-weaker, IfErr-weaker}
use Rattle.cls_base.specs.Firsts.{IsSilent, First}
use Rattle.cls_repo.specs.EndFaults.{end_faults}
use Rattle.cls_repo.specs.FaultWords.{IsSaid}
use Rattle.cls_repo.specs.Readings.{Reading, closing_faults}
use Rattle.cls_repo.specs.Repositories.{IsRepositoryOf}
use Rattle.cls_repo.specs.Sound.{IsWhole}
use Rattle.cls_repo.specs.Written.{draft_of}
use Rattle.cls_repo.proofs.Endings.{ended_silent}
use Rattle.cls_repo.proofs.Soundness.{whole}
use Rattle.cls_repo.proofs.Taking.{ended_said}
use Rattle.cls_repo.proofs.reader.RepoReader.finish.Goals as goal

was_ended : (ended : Bool) → not ended ≡ false → ended ≡ true
was_ended true e = refl
was_ended false e = sym e

pub returns-clause-silent : goal.returns-clause-silent
returns-clause-silent c =
    let i = c.self.inside in
    let r : Reading = record { draft = draft_of i.draft; lines = i.lines; ended = i.ended } in
    subst (λ (read : Reading). OnOk c.build.result (IsSilent (First (closing_faults read)))) c.self.view_is
    (on_ok_weaker c.build.result (ended_silent r (was_ended i.ended c.if-not-self.false)) c.build.ensures.silent)

pub returns-clause-fault : goal.returns-clause-fault
returns-clause-fault c =
    let i = c.self.inside in
    let r : Reading = record { draft = draft_of i.draft; lines = i.lines; ended = i.ended } in
    subst (λ (read : Reading). IfErr c.build.result (IsSaid (First (closing_faults read)))) c.self.view_is
    (IfErr-weaker c.build.result (IsSaid (First (end_faults r.draft r.lines))) (IsSaid (First (closing_faults r))) (λ fault said. ended_said r fault (was_ended i.ended c.if-not-self.false) said) c.build.ensures.fault)

pub returns-clause-whole : goal.returns-clause-whole
returns-clause-whole c =
    let d = draft_of c.self.inside.draft in
    IfOk-weaker c.build.result (IsRepositoryOf d) IsWhole (λ r is. whole d r c.self.invariant is) c.build.ensures.repository
