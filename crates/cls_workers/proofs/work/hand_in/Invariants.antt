use Rattle.std.proofs.Common.{◌≡◌, []}
use Rattle.std.specs.Option.{ForSome}
use Rattle.cls_table.specs.Batches.{IsBatchFor}
use Rattle.cls_workers.proofs.work.hand_in.Given as goal

abbrev pub invariant-loop : goal.invariant-loop
invariant-loop g l = record {
  same : l.seat ≡ l.initial.seat;
  batch : ForSome l.seat.tag (λ t. IsBatchFor t l.seat.worker l.batch);
  no_claims : l.batch.claims ≡ [];
}
