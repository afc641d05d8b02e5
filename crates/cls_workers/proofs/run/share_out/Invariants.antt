use Rattle.cls_workers.specs.Seats.{IsAfterWork}
use Rattle.cls_workers.proofs.run.share_out.Given as goal

abbrev pub invariant-loop : goal.invariant-loop
invariant-loop g l =
    (goal.iterator-loop g).can_next l.iterator' × (goal.iterator-loop g).is_finite l.iterator'
    × IsAfterWork l.initial.seat l.seat
