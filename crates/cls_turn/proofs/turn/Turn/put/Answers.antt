use Rattle.std.proofs.Common.{rules, []}
use Rattle.cls_turn.proofs.Steps.{put_step, filled}
use Rattle.cls_turn.proofs.turn.Turn.put.Goals as goal

pub store-requires : goal.store-requires
store-requires g c =
    let G = g.T.Known in
    let t = c.requires.taken in (
      search rules,
      search rules,
      put_step G.goes_on G.known _ _ _ t.0 c.args.value [] G.goes_on_reflexive G.goes_on_transitive
          c.args.self.now.sized.1 t.2
          (filled c.args.seat.now.seat.me _ _ _ _ c.exchange.ensures.3 t.1.0 t.1.1),
    )
