use Rattle.std.proofs.Common.{◌+◌, Some, sym, subst, ◌∙◌, arith}
use Rattle.std.proofs.lemmas.Option.{slice_get_within}
use Rattle.cls_grammar.specs.Climbs.{IsKept, without_waiting}
use Rattle.cls_grammar.proofs.ranking.Climb.rise.Goals as goal
use Rattle.cls_grammar.proofs.Climbing.{kept-next}

pub rank-height-requires : goal.rank-height-requires
rank-height-requires g c = let u = c.requires.kept.1.listed c.args.place c.args.node c.requires.node in (u.0, u.1)

pub take_waiting-requires : goal.take_waiting-requires
take_waiting-requires g c = omega (arith, c.requires.kept.1.queues, c.requires.kept.1.sized, slice_get_within c.args.self.now.ranks c.args.node (Some c.rank-height.result) c.rank-height.ensures)

pub advance_all-requires : goal.advance_all-requires
advance_all-requires g c =
    let book = g.B.RuleBook.book c.args.book.now in
    let old = c.args.self.now in
    let rank = c.rank-height.result in
    let next = kept-next book c.args.place c.requires.kept.0 c.args.node rank old c.requires.kept.1 c.requires.node c.rank-height.ensures in
    let queue = subst (λ l. IsKept book (c.args.place + 1) rank l (without_waiting old c.args.node)) (sym (c.as_slice.ensures ∙ c.in_ok-take_waiting.ensures.queue)) next in
    (c.args.place + 1, subst (λ s. IsKept book (c.args.place + 1) rank c.as_slice.result.now s) (sym c.in_ok-take_waiting.ensures.after) queue)

pub returns : goal.returns
returns g c =
    let book = g.B.RuleBook.book c.args.book.now in
    let old = c.args.self.now in
    let rank = c.rank-height.result in
    let next = kept-next book c.args.place c.requires.kept.0 c.args.node rank old c.requires.kept.1 c.requires.node c.rank-height.ensures in
    let queue = subst (λ l. IsKept book (c.args.place + 1) rank l (without_waiting old c.args.node)) (sym (c.as_slice.ensures ∙ c.in_ok-take_waiting.ensures.queue)) next in
    (rank, c.in_ok-advance_all.ensures (c.args.place + 1) (subst (λ s. IsKept book (c.args.place + 1) rank c.as_slice.result.now s) (sym c.in_ok-take_waiting.ensures.after) queue))
