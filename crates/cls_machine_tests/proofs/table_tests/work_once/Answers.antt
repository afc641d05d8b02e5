use Rattle.std.proofs.Common.{ℕ, sym, ◌∙◌, ap, subst}
use Rattle.cls_table.specs.Batches.{IsBatchFor}
use Rattle.cls_machine_tests.proofs.table_tests.work_once.Goals as goal

pub exchange-requires-then-is_ok-clause-batch : goal.exchange-requires-then-is_ok-clause-batch
exchange-requires-then-is_ok-clause-batch g c tag is =
    let same = c.exchange.ensures.seat in
    let was = c.exchange.ensures.batch tag (sym (ap (λ s. s.tag) same) ∙ is) in
    subst (λ (w : ℕ). IsBatchFor tag w c.expand.new.self) (sym (ap (λ s. s.worker) same)) (c.expand.ensures.batch tag c.args.seat.worker was)
