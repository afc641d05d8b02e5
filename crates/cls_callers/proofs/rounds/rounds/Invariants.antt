use Rattle.std.proofs.Common.{◌≡◌, []}
use Rattle.std.specs.Option.{ForSome}
use Rattle.cls_table.specs.Batches.{IsBatchFor}
use Rattle.cls_callers.specs.Asking.{IsAfterAsking}
use Rattle.cls_callers.proofs.rounds.rounds.Given as goal

abbrev pub invariant-loop : goal.invariant-loop
invariant-loop g l = record {
  after : IsAfterAsking l.initial.seat l.seat;
  batch : ForSome l.seat.tag (λ t. IsBatchFor t l.seat.worker l.batch);
  no_claims : l.batch.claims ≡ [];
}
