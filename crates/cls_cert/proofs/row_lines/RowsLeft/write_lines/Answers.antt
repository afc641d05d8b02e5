use Rattle.std.proofs.Common.{◌≡◌, ◌∙◌, ◌<◌, ◌≤◌, ◌++◌, List, length, drop, ap, sym, subst, arith, All, string_bytes}
use Rattle.std.specs.Prelude.{codes}
use Rattle.cls_proof.specs.Texts.{line}
use Rattle.cls_cert.specs.Conditions.{forms_of}
use Rattle.cls_cert.specs.declared.rows.MadeRow.{MadeRow}
use Rattle.cls_cert.specs.Left.{rows_text}
use Rattle.cls_cert.proofs.RowWriting.{rows_done}
use Rattle.cls_cert.proofs.Writing.{with_end}
use Rattle.cls_cert.proofs.row_lines.RowsLeft.write_lines.Goals as goal

pub write_rows-requires-clause-each : goal.write_rows-requires-clause-each
write_rows-requires-clause-each c = subst (λ (rs : List MadeRow). All (λ (r : MadeRow). r.number < length c.args.grammar.now) rs) (sym c.as_slice-rows.ensures.value) c.requires.each

pub write_rows-requires-clause-from : goal.write_rows-requires-clause-from
write_rows-requires-clause-from c = subst (λ (rs : List MadeRow). c.args.self.now.next ≤ length rs) (sym c.as_slice-rows.ensures.value) c.requires.next

pub returns-then-next-count-clause-left : goal.returns-then-next-count-clause-left
returns-then-next-count-clause-left c = record { each = c.requires.each; next = subst (λ (rs : List MadeRow). c.in_ok-next.next ≤ length rs) c.as_slice-rows.ensures.value c.in_ok-next.ensures.within }

pub returns-then-next-count-clause-lines : goal.returns-then-next-count-clause-lines
returns-then-next-count-clause-lines c =
    let names = c.args.names.now in
    let components = c.args.components.now in
    let goals = forms_of c.args.grammar.now in
    let r = c.args.self.now in
    let t = string_bytes c.args.text.now in
    let u = string_bytes c.write_rows.new.text in
    let next = c.in_ok-next.next in
    let lines : u ++ rows_text names components goals (drop next r.rows.items) ≡ t ++ rows_text names components goals (drop r.next r.rows.items) =
    subst (λ (rs : List MadeRow). u ++ rows_text names components goals (drop next rs) ≡ t ++ rows_text names components goals (drop r.next rs)) c.as_slice-rows.ensures.value c.in_ok-next.ensures.lines in
    (with_end u t (rows_text names components goals (drop next r.rows.items)) (rows_text names components goals (drop r.next r.rows.items)) (line (codes "qed")) lines, c.in_ok-next.ensures.full (omega (arith, c.if-next-count.true)))

pub returns-clause-left : goal.returns-clause-left
returns-clause-left c = record { each = c.requires.each; next = subst (λ (rs : List MadeRow). c.in_ok-next.next ≤ length rs) c.as_slice-rows.ensures.value c.in_ok-next.ensures.within }

pub returns-clause-lines : goal.returns-clause-lines
returns-clause-lines c =
    let names = c.args.names.now in
    let components = c.args.components.now in
    let goals = forms_of c.args.grammar.now in
    let r = c.args.self.now in
    let rows = c.as_slice-rows.result.now in
    let over : length rows ≤ c.in_ok-next.next = omega (arith, c.if-next-count.false) in
    let done = rows_done names components goals rows c.in_ok-next.next (string_bytes c.args.text.now) (string_bytes c.write_rows.new.text) (string_bytes c.push_str.new.self) (line (codes "qed")) _ over c.in_ok-push_str.ensures.bytes c.in_ok-next.ensures.lines in
    done ∙ ap (λ (rs : List MadeRow). string_bytes c.args.text.now ++ (rows_text names components goals (drop r.next rs) ++ line (codes "qed"))) c.as_slice-rows.ensures.value
