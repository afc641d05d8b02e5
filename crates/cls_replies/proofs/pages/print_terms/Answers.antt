use Rattle.std.proofs.Common.{◌≤◌, length, drop, arith, string_bytes}
use Rattle.std.specs.Prelude.{codes, if◌then◌else◌}
use Rattle.std.specs.List.{flat_map}
use Rattle.cls_term.specs.Texts.{name_at}
use Rattle.cls_cert.proofs.Writing.{with_end}
use Rattle.cls_replies.specs.Texts.{reply_line, term_line}
use Rattle.cls_replies.proofs.Portions.{at_end}
use Rattle.cls_replies.proofs.pages.print_terms.Goals as goal

pub returns-then-next-count-clause-lines : goal.returns-then-next-count-clause-lines
returns-then-next-count-clause-lines c =
    let shown = term_line (name_at c.args.components.now) in
    let page = c.args.page.now in
    with_end (string_bytes c.write_lines.new.text) (string_bytes c.args.text.now) (flat_map shown (drop c.in_ok-next.next page.terms)) (flat_map shown (drop c.args.from page.terms)) (reply_line (if page.more then codes "more" else codes "done")) c.in_ok-next.ensures.lines

pub returns-then-next-count-clause-full : goal.returns-then-next-count-clause-full
returns-then-next-count-clause-full c = c.in_ok-next.ensures.full (omega (arith, c.if-next-count.true, c.len-count.ensures))

pub returns-clause-lines : goal.returns-clause-lines
returns-clause-lines c =
    let shown = term_line (name_at c.args.components.now) in
    let page = c.args.page.now in
    let over : length page.terms ≤ c.in_ok-next.next = omega (arith, c.if-next-count.false, c.len-count.ensures) in
    at_end shown page.terms c.in_ok-next.next (string_bytes c.write_lines.new.text) (string_bytes c.args.text.now) (string_bytes c.write_more.new.text) (flat_map shown (drop c.args.from page.terms)) (reply_line (if page.more then codes "more" else codes "done")) over c.in_ok-write_more.ensures c.in_ok-next.ensures.lines
