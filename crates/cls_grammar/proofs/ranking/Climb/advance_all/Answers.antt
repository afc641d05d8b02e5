use Rattle.std.proofs.Common.{◌+◌, drop, subst}
use Rattle.cls_grammar.specs.declared.waiting.Waiting.{Waiting}
use Rattle.cls_grammar.specs.Climbs.{IsKept}
use Rattle.cls_grammar.proofs.ranking.Climb.advance_all.Goals as goal
use Rattle.cls_grammar.proofs.Climbing.{drop-front, drop-end}

pub advance-requires : goal.advance-requires
advance-requires g c =
    let i = c.loop-waiting.waiting-index in
    let q = c.args.queue.now in
    let d : Waiting = record { node = 0; rule = 0; argument = 0 } in
    (c.requires.0, drop (i + 1) q, subst (λ l. IsKept (g.B.RuleBook.book c.args.book.now) c.requires.0 c.args.height l c.loop-waiting.self) (drop-front q i d c.loop-waiting-test.true) (c.loop-waiting.invariant c.requires.0 c.requires.1))

pub loop-waiting-preserved : goal.loop-waiting-preserved
loop-waiting-preserved g c = λ done k.
    let i = c.loop-waiting.waiting-index in
    let q = c.args.queue.now in
    let d : Waiting = record { node = 0; rule = 0; argument = 0 } in
    c.in_ok-advance.ensures done (drop (i + 1) q) (subst (λ l. IsKept (g.B.RuleBook.book c.args.book.now) done c.args.height l c.loop-waiting.self) (drop-front q i d c.loop-waiting-test.true) (c.loop-waiting.invariant done k))

pub returns : goal.returns
returns g c = λ done k. subst (λ l. IsKept (g.B.RuleBook.book c.args.book.now) done c.args.height l c.loop-waiting.self) (drop-end c.loop-waiting.waiting-index c.args.queue.now c.loop-waiting-test.false) (c.loop-waiting.invariant done k)
