use Rattle.std.proofs.Common.{◌<◌, ◌≤◌, ◌++◌, ◌∙◌, length, drop, ap, arith, string_bytes}
use Rattle.std.specs.Prelude.{codes}
use Rattle.std.specs.List.{flat_map}
use Rattle.cls_cert.proofs.Writing.{line_next, with_end}
use Rattle.cls_replies.specs.Texts.{reply_line}
use Rattle.cls_replies.proofs.Portions.{at_end}
use Rattle.cls_replies.proofs.items.print_items.Goals as goal

pub loop-place-preserved : goal.loop-place-preserved
loop-place-preserved g c =
    let line = g.T.Item.line in
    let items = c.args.items.now in
    let less : c.loop-place.place < length items = omega (arith, c.loop-place-test.true) in
    let written = c.in_ok-write_line.ensures ∙ ap (λ x. string_bytes c.loop-place.text ++ line x) c.index-items-place.is in
    line_next line items c.loop-place.place c.index-items-place.result (string_bytes c.loop-place.text) (string_bytes c.write_line.new.text) _ less written c.loop-place.invariant

pub returns-then-written-enough-clause-lines : goal.returns-then-written-enough-clause-lines
returns-then-written-enough-clause-lines g c =
    let line = g.T.Item.line in
    let items = c.args.items.now in
    let now = string_bytes c.loop-place.text in
    let old = string_bytes c.args.text.now in
    with_end now old (flat_map line (drop c.loop-place.place items)) (flat_map line (drop c.args.from items)) (reply_line (codes "done")) c.loop-place.invariant

pub returns-clause-lines : goal.returns-clause-lines
returns-clause-lines g c =
    let line = g.T.Item.line in
    let items = c.args.items.now in
    let over : length items ≤ c.loop-place.place = omega (arith, c.loop-place-test.false) in
    at_end line items c.loop-place.place (string_bytes c.loop-place.text) (string_bytes c.args.text.now) (string_bytes c.push_str.new.self) (flat_map line (drop c.args.from items)) (reply_line (codes "done")) over c.in_ok-push_str.ensures.bytes c.loop-place.invariant
