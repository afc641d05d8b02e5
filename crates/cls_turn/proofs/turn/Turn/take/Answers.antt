use Rattle.std.proofs.Common.{rules, Some}
use Rattle.cls_turn.proofs.Steps.{take_step, in_front}
use Rattle.cls_turn.proofs.turn.Turn.take.Goals as goal

pub compare_exchange-found-requires : goal.compare_exchange-found-requires
compare_exchange-found-requires g c =
    let G = g.T.Known in (search rules, search rules, take_step G.goes_on G.known _ _ c.loop.seat.seat.me)

pub exchange-requires : goal.exchange-requires
exchange-requires g c =
    let t = c.compare_exchange-found.ensures.2.0 c.if-found-eq0.true in
    (search rules, (Some t.0, in_front _ _ (0, Some t.0) t.1))
