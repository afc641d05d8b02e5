use Rattle.std.proofs.Common.{subst}
use Rattle.std.specs.Prelude.{IfErr}
use Rattle.std.proofs.lemmas.Result.{IfErr-weaker}
use Rattle.cls_base.specs.Firsts.{First}
use Rattle.cls_repo.specs.FaultWords.{IsSaid}
use Rattle.cls_repo.specs.Readings.{Reading, closing_faults, FirstFault}
use Rattle.cls_repo.proofs.Taking.{on_words}
use Rattle.cls_repo.proofs.repository.Repository.read.Goals as goal

pub returns-clause-fault : goal.returns-clause-fault
returns-clause-fault c =
    let lines = c.args.lines.now in
    let read = c.feed_all.new.reader in
    subst (λ (start : Reading). IfErr c.finish.result (IsSaid (FirstFault start lines))) c.new-reader.ensures
    (IfErr-weaker c.finish.result (IsSaid (First (closing_faults read))) (IsSaid (FirstFault c.new-reader.result lines))
    (λ fault said. on_words (λ words. First (closing_faults read) (fault.line, words)) (λ words. FirstFault c.new-reader.result lines (fault.line, words)) (λ words first. c.in_ok-feed_all.ensures.closing (fault.line, words) first) fault.kind said)
    c.finish.ensures.fault)
