use Rattle.std.proofs.Common.{rules}
use Rattle.cls_turn.proofs.Steps.{split_step}
use Rattle.cls_turn.proofs.turn.Turn.split.Goals as goal

pub split_seat-new-requires : goal.split_seat-new-requires
split_seat-new-requires g c =
    let G = g.T.Known in
    let knows = c.requires.free in (search rules, search rules, split_step G.goes_on G.known _ _ knows.0 knows.1.0)
