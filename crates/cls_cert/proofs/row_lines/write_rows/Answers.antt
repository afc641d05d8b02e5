use Rattle.std.proofs.Common.{◌<◌, ◌≤◌, ◌++◌, ◌∙◌, List, length, ap, sym, subst, arith, string_bytes}
use Rattle.std.proofs.lemmas.List.{drop_all}
use Rattle.std.proofs.lemmas.List.Elements.{All-get_or}
use Rattle.cls_cert.specs.Conditions.{forms_of}
use Rattle.cls_cert.specs.declared.rows.MadeRow.{MadeRow}
use Rattle.cls_cert.specs.Left.{rows_text}
use Rattle.cls_cert.proofs.RowWriting.{row_next}
use Rattle.cls_cert.proofs.row_lines.write_rows.Goals as goal

pub write_made_row-requires : goal.write_made_row-requires
write_made_row-requires c =
    let rows = c.args.rows.now in
    let place = c.loop-place.place in
    let less : place < length rows = omega (arith, c.loop-place-test.true) in
    let row = c.index-rows-place.result in
    subst (λ (r : MadeRow). r.number < length c.args.named.now.grammar.now) (sym c.index-rows-place.is) (All-get_or (λ (r : MadeRow). r.number < length c.args.named.now.grammar.now) rows place row less c.requires.each)

pub loop-place-preserved : goal.loop-place-preserved
loop-place-preserved c =
    let rows = c.args.rows.now in
    let place = c.loop-place.place in
    let less : place < length rows = omega (arith, c.loop-place-test.true) in
    row_next c.args.named.now.names.now c.args.named.now.components.now (forms_of c.args.named.now.grammar.now) rows place c.index-rows-place.result (string_bytes c.loop-place.text) (string_bytes c.write_made_row.new.text) _ c.index-rows-place.is less c.in_ok-write_made_row.ensures c.loop-place.invariant

pub returns-clause-lines : goal.returns-clause-lines
returns-clause-lines c =
    let rows = c.args.rows.now in
    let over : length rows ≤ c.loop-place.place = omega (arith, c.loop-place-test.false) in
    let count : length rows ≤ length rows = omega arith in
    ap (λ (rs : List MadeRow). string_bytes c.loop-place.text ++ rows_text c.args.named.now.names.now c.args.named.now.components.now (forms_of c.args.named.now.grammar.now) rs) (drop_all (length rows) rows count ∙ sym (drop_all c.loop-place.place rows over))
    ∙ c.loop-place.invariant
