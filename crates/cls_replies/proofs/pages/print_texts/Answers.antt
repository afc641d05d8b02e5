use Rattle.std.proofs.Common.{◌≡◌, ◌∙◌, ◌<◌, ◌≤◌, ◌++◌, List, ℕ, length, drop, ap, arith, append_assoc, string_bytes}
use Rattle.std.specs.Prelude.{codes, if◌then◌else◌}
use Rattle.std.specs.List.{flat_map}
use Rattle.cls_base.specs.Terms.{Applicative}
use Rattle.cls_assemble.specs.Texts.{text_by}
use Rattle.cls_term.specs.Banks.{at}
use Rattle.cls_term.specs.Texts.{name_at}
use Rattle.cls_term.proofs.Writing.{left_next}
use Rattle.cls_cert.proofs.Writing.{with_end}
use Rattle.cls_replies.specs.Texts.{reply_line, assembled_lines, term_line, term_lines}
use Rattle.cls_replies.proofs.Portions.{at_end}
use Rattle.cls_replies.proofs.pages.print_texts.Goals as goal

pub loop-place-preserved : goal.loop-place-preserved
loop-place-preserved c =
    let name = name_at c.args.components.now in
    let templates = c.args.templates.now in
    let terms = c.args.page.now.terms in
    let place = c.loop-place.place in
    let e = at terms place in
    let before = string_bytes c.loop-place.text in
    let less : place < length terms = omega (arith, c.loop-place-test.true, c.len-count.ensures) in
    let written : string_bytes c.write_assembled.new.text ≡ before ++ term_lines name templates e =
    c.in_ok-write_assembled.ensures
    ∙ ap (λ (d : Applicative). string_bytes c.write_term.new.text ++ assembled_lines (text_by templates d)) c.in_ok-term.ensures
    ∙ ap (λ (v : List ℕ). v ++ assembled_lines (text_by templates e)) c.in_ok-write_term.ensures
    ∙ append_assoc before (term_line name e) (assembled_lines (text_by templates e))
    in
    left_next (term_lines name templates) terms place before (string_bytes c.write_assembled.new.text) _ less written c.loop-place.invariant

pub returns-then-written-enough-clause-lines : goal.returns-then-written-enough-clause-lines
returns-then-written-enough-clause-lines c =
    let shown = term_lines (name_at c.args.components.now) c.args.templates.now in
    let page = c.args.page.now in
    with_end (string_bytes c.loop-place.text) (string_bytes c.args.text.now) (flat_map shown (drop c.loop-place.place page.terms)) (flat_map shown (drop c.args.from page.terms)) (reply_line (if page.more then codes "more" else codes "done")) c.loop-place.invariant

pub returns-clause-lines : goal.returns-clause-lines
returns-clause-lines c =
    let shown = term_lines (name_at c.args.components.now) c.args.templates.now in
    let page = c.args.page.now in
    let over : length page.terms ≤ c.loop-place.place = omega (arith, c.loop-place-test.false, c.len-count.ensures) in
    at_end shown page.terms c.loop-place.place (string_bytes c.loop-place.text) (string_bytes c.args.text.now) (string_bytes c.write_more.new.text) (flat_map shown (drop c.args.from page.terms)) (reply_line (if page.more then codes "more" else codes "done")) over c.in_ok-write_more.ensures c.loop-place.invariant
