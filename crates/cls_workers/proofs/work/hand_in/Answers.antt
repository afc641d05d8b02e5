use Rattle.std.proofs.Common.{◌≡◌, ◌+◌, ℕ, sym, ◌∙◌, ap, subst, arith, length}
use Rattle.std.specs.Option.{ForSome}
use Rattle.cls_table.specs.Batches.{IsBatchFor}
use Rattle.cls_table.specs.Seen.{SeatSeen}
use Rattle.cls_table.proofs.Filing.{nothing-left}
use Rattle.cls_workers.proofs.work.hand_in.Goals as goal

pub loop-preserved : goal.loop-preserved
loop-preserved g c =
    let seat = c.loop.seat in
    let most = c.exchange.ensures.most in
    let none : seat.amount + length c.exchange.new.batch.claims ≡ seat.amount = omega arith in
    let stays = c.exchange.ensures.seat ∙ ap (λ (n : ℕ). record seat { amount = n }) none in record {
      same = stays ∙ c.loop.invariant.same;
      batch = subst (λ (s : SeatSeen g.row.E-Tag.Denot g.row.E-Goal.Denot). ForSome s.tag (λ t. IsBatchFor t s.worker c.exchange.new.batch))
          (sym stays) c.exchange.ensures.batch;
      no_claims = nothing-left c.exchange.new.batch.claims (omega arith);
    }
