use Rattle.std.proofs.Common.{ℕ, sym, ◌∙◌, ap, subst}
use Rattle.cls_table.specs.Batches.{IsBatchFor}
use Rattle.cls_workers.proofs.work.round.Goals as goal

pub returns-in-Ok-clause-batch : goal.returns-in-Ok-clause-batch
returns-in-Ok-clause-batch g c tag is =
    let same = c.exchange-told.ensures.seat in
    let was = c.exchange-told.ensures.batch tag (sym (ap (λ s. s.tag) same) ∙ is) in
    subst (λ (w : ℕ). IsBatchFor tag w c.expand.new.self) (sym (ap (λ s. s.worker) same)) (c.in-Ok.ensures.batch tag c.args.seat.worker was)
