use Rattle.std.proofs.Common.{◌∙◌}
use Rattle.cls_callers.proofs.rounds.rounds.Goals as goal

pub round-requires-clause-meaning : goal.round-requires-clause-meaning
round-requires-clause-meaning g c =
    let m = c.requires.meaning in (m.0, c.loop.invariant.after.tag ∙ m.1, m.2)
