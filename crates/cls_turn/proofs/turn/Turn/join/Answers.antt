use Rattle.std.proofs.Common.{rules}
use Rattle.cls_turn.proofs.Steps.{join_step}
use Rattle.cls_turn.proofs.turn.Turn.join.Goals as goal

pub join_seat-requires : goal.join_seat-requires
join_seat-requires g c =
    let G = g.T.Known in
    let knows = c.requires.free in
    (search rules, search rules, search rules, search rules, join_step G.goes_on G.known _ _ _ _ knows.0 knows.1.0)
