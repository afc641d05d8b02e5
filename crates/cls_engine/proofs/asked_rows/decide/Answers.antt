use Rattle.std.proofs.Common.{◌≡◌, ◌<◌, Bool, List, false, length, map, slice_index_or, sym, ap, subst, ◌∙◌, arith}
use Rattle.std.specs.List.{AllZip}
use Rattle.std.proofs.lemmas.Result.{IfOk-weaker}
use Rattle.cls_base.specs.Lists.{AreBelow}
use Rattle.cls_base.specs.Languages.{rules_at}
use Rattle.cls_base.specs.Arguments.{arguments_in}
use Rattle.cls_core.specs.Rows.{Row}
use Rattle.cls_callers.specs.declared.goal.AskGoal.{AskGoal}
use Rattle.cls_grammar.specs.Grammars.{book_of}
use Rattle.cls_grammar.specs.Ranks.{AreProductive}
use Rattle.cls_grammar.proofs.RowColumns.{book-count}
use Rattle.cls_engine.specs.Batching.{SaysInhabited}
use Rattle.cls_engine.specs.Goals.{Goal}
use Rattle.cls_engine.proofs.AskedRows.{rooted-grammar, asked-below, rooted-says}
use Rattle.cls_engine.proofs.RowsBooks.{some-row}
use Rattle.cls_engine.proofs.asked_rows.decide.Goals as goal

pub new-book-requires-clause-grammar : goal.new-book-requires-clause-grammar
new-book-requires-clause-grammar c = rooted-grammar c.args.asked.now c.args.rows.now c.requires.rooted

pub rules-requires : goal.rules-requires
rules-requires c =
    let rows = c.args.rows.now in
    let some = some-row rows (rooted-grammar c.args.asked.now rows c.requires.rooted) in
    subst (λ (r : List (Row (AskGoal Goal))). 0 < length (book_of r)) (sym c.new-book.ensures) (omega (arith, some, book-count rows))

pub flags_at-requires : goal.flags_at-requires
flags_at-requires c =
    let rows = c.args.rows.now in
    let productive = subst (λ (r : List (Row (AskGoal Goal))). AreProductive (book_of r) c.in_ok-flags.flags) c.new-book.ensures c.in_ok-flags.ensures in
    let nodes : c.arguments.result.now ≡ arguments_in (rules_at (book_of rows) 0) =
    c.arguments.ensures ∙ ap arguments_in (c.rules.ensures.rules ∙ ap (λ (r : List (Row (AskGoal Goal))). rules_at (book_of r) 0) c.new-book.ensures) in
    subst (λ (flags : List Bool). AreBelow (length flags) c.arguments.result.now) (sym c.as_slice.ensures)
    (subst (AreBelow (length c.in_ok-flags.flags)) (sym nodes) (asked-below c.args.asked.now rows c.requires.rooted c.in_ok-flags.flags productive))

pub returns : goal.returns
returns c =
    let rows = c.args.rows.now in
    let t = c.args.asked.now in
    let flags = c.in_ok-flags.flags in
    let productive = subst (λ (r : List (Row (AskGoal Goal))). AreProductive (book_of r) flags) c.new-book.ensures c.in_ok-flags.ensures in
    let nodes : c.arguments.result.now ≡ arguments_in (rules_at (book_of rows) 0) =
    c.arguments.ensures ∙ ap arguments_in (c.rules.ensures.rules ∙ ap (λ (r : List (Row (AskGoal Goal))). rules_at (book_of r) 0) c.new-book.ensures) in
    IfOk-weaker c.flags_at.result (λ says. says.items ≡ map (λ n. slice_index_or c.as_slice.result.now n false) c.arguments.result.now)
    (λ says. AllZip (SaysInhabited t.by) t.goals says.items)
    (λ says is. rooted-says t rows c.requires.rooted c.requires.ruled c.facts.ensures flags productive says.items
    (is ∙ (λ i. map (λ n. slice_index_or (c.as_slice.ensures i) n false) (nodes i))))
    c.flags_at.ensures
