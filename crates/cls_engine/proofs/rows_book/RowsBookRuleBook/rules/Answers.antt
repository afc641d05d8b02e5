use Rattle.std.proofs.Common.{◌≡◌, List, Some, length, ap, subst, ◌∙◌, arith}
use Rattle.cls_base.specs.Books.{HaveNodesBelow}
use Rattle.cls_base.specs.Languages.{rules_at}
use Rattle.cls_core.specs.Rows.{Row}
use Rattle.cls_grammar.specs.Grammars.{book_of}
use Rattle.cls_grammar.proofs.RowColumns.{book-count}
use Rattle.cls_engine.proofs.RowsBooks.{none-wide, rules-here, within-here}
use Rattle.cls_engine.proofs.rows_book.RowsBookRuleBook.rules.Goals as goal

pub answer-requires : goal.answer-requires
answer-requires g c =
    omega (arith, c.requires, ap (λ (rows : List (Row g.row.G.Denot)). length rows) c.self.view_is, book-count c.args.self.now)

pub unreachable-requires : goal.unreachable-requires
unreachable-requires g c =
    none-wide c.self.inside.rows.now c.self.invariant.1 c.args.i c.answer.result.now c.answer.ensures c.in-None.ensures.wide

pub returns-clause-rules : goal.returns-clause-rules
returns-clause-rules g c =
    subst (λ (rows : List (Row g.row.G.Denot)). c.in-Some.rules.now ≡ rules_at (book_of rows) c.args.i) c.self.view_is
    (rules-here c.self.inside.rows.now c.args.i c.in-Some.rules.now (c.answer.ensures ∙ ap Some c.in-Some.ensures.rules))

pub returns-clause-within : goal.returns-clause-within
returns-clause-within g c =
    subst (λ (rows : List (Row g.row.G.Denot)). HaveNodesBelow (length (book_of rows)) (rules_at (book_of rows) c.args.i)) c.self.view_is
    (within-here c.self.inside.rows.now c.self.invariant.0 c.args.i c.in-Some.rules.now (c.answer.ensures ∙ ap Some c.in-Some.ensures.rules))
