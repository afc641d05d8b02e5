use Rattle.std.proofs.Common.{drop, ◌+◌, sym, ◌∙◌}
use Rattle.std.proofs.lemmas.List.{drop_all}
use Rattle.cls_repo.proofs.AllLines.{started, closing_fault, has_room, last_taken, last_closing, next_line}
use Rattle.cls_repo.proofs.repository.feed_all.Goals as goal

pub loop-line-init : goal.loop-line-init
loop-line-init c = started c.args.reader.now c.args.lines.now c.requires.going

pub feed-requires-clause-going : goal.feed-requires-clause-going
feed-requires-clause-going c = c.loop-line.invariant.going

pub feed-requires-clause-room : goal.feed-requires-clause-room
feed-requires-clause-room c =
    let lines = c.args.lines.now in
    has_room c.args.reader.now lines c.loop-line.reader c.line-item.result (drop (c.loop-line.line-index + 1) lines) (drop c.loop-line.line-index lines)
    (next_line lines c.loop-line.line-index c.line-item.result c.loop-line-test.true c.line-item.is) c.loop-line.invariant c.requires.room

pub returns-clause-taken : goal.returns-clause-taken
returns-clause-taken c =
    let lines = c.args.lines.now in
    last_taken c.args.reader.now lines c.loop-line.reader (drop c.loop-line.line-index lines) (drop_all c.loop-line.line-index lines c.loop-line-test.false) c.loop-line.invariant

pub returns-clause-closing : goal.returns-clause-closing
returns-clause-closing c =
    let lines = c.args.lines.now in
    last_closing c.args.reader.now lines c.loop-line.reader (drop c.loop-line.line-index lines) (drop_all c.loop-line.line-index lines c.loop-line-test.false) c.loop-line.invariant

pub returns-then-branch-clause-closing : goal.returns-then-branch-clause-closing
returns-then-branch-clause-closing c =
    let lines = c.args.lines.now in
    closing_fault c.args.reader.now lines c.loop-line.reader c.line-item.result (drop (c.loop-line.line-index + 1) lines) (drop c.loop-line.line-index lines)
    (next_line lines c.loop-line.line-index c.line-item.result c.loop-line-test.true c.line-item.is) c.loop-line.invariant c.feed.new.self c.in_ok-feed.ensures.taken (sym c.in_ok-feed.ensures.ended ∙ c.if-branch.true)
