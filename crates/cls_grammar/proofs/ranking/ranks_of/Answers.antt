use Rattle.std.proofs.Common.{◌+◌, ◌-◌, ◌<◌, [], length, sym, ap, subst, ◌∙◌, arith}
use Rattle.std.proofs.lemmas.Option.{slice_get_within}
use Rattle.cls_grammar.specs.Climbs.{IsKept, all_waits, begun}
use Rattle.cls_grammar.specs.Ranks.{AreRanks}
use Rattle.cls_grammar.proofs.ranking.ranks_of.Goals as goal
use Rattle.cls_grammar.proofs.Climbing.{kept-begun, kept-ranks, known-within, past-known}

pub start-requires : goal.start-requires
start-requires g c =
    let book = g.B.RuleBook.book c.args.book.now in
    subst (IsKept book 0 0 (all_waits 0 book)) (sym (c.in_ok-climb.ensures ∙ ap begun c.count.ensures.count)) (kept-begun book (omega (arith, c.count.ensures.count, c.count.type_inv)))

pub loop-node-smaller : goal.loop-node-smaller
loop-node-smaller g c =
    let book = g.B.RuleBook.book c.args.book.now in
    let place = c.loop-node.place in
    let less : length book - (place + 1) < length book - place = omega (arith, slice_get_within c.loop-node.climb.known place c.in-Some.node (sym c.in-Some.ensures), known-within book place c.loop-node.invariant.0 [] c.loop-node.climb c.loop-node.invariant.1) in
    less

pub returns : goal.returns
returns g c =
    let book = g.B.RuleBook.book c.args.book.now in
    let over = past-known book c.loop-node.climb.known c.loop-node.place (sym c.in_default.ensures) in
    subst (AreRanks book) (sym c.into_ranks.ensures) (kept-ranks book c.loop-node.place c.loop-node.invariant.0 c.loop-node.climb c.loop-node.invariant.1 over)
