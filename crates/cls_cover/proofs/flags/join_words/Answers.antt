use Rattle.std.proofs.Common.{arith, rules}
use Rattle.cls_cover.proofs.Words.{joined_flags}
use Rattle.cls_cover.proofs.flags.join_words.Goals as goal

pub returns-clause-joined : goal.returns-clause-joined
returns-clause-joined c =
    joined_flags c.args.once.now c.args.met.now c.args.row.now c.loop-i.i c.loop-i.once c.loop-i.met (omega arith)
    c.requires.once c.requires.met (λ k. search rules) c.loop-i.invariant
