use Rattle.std.proofs.Common.{◌≡◌, ◌<◌, []}
use Rattle.std.specs.Option.{ForSome}
use Rattle.cls_table.specs.Batches.{IsBatchFor}
use Rattle.cls_workers.specs.Seats.{IsAfterWork}
use Rattle.cls_workers.specs.declared.work.TheConstants.{MOST_WAITS}
use Rattle.cls_workers.proofs.work.rounds.Given as goal

abbrev pub invariant-loop : goal.invariant-loop
invariant-loop g l = record {
  after : IsAfterWork l.fn.seat l.seat;
  batch : ForSome l.seat.tag (λ t. IsBatchFor t l.seat.worker l.batch);
  no_claims : l.batch.claims ≡ [];
  few : l.waits < MOST_WAITS;
}
