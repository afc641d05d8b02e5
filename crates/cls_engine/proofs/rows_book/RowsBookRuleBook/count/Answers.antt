use Rattle.std.proofs.Common.{List, length, ap, arith}
use Rattle.cls_core.specs.Rows.{Row}
use Rattle.cls_grammar.proofs.RowColumns.{book-count}
use Rattle.cls_engine.proofs.RowsBooks.{some-row}
use Rattle.cls_engine.proofs.rows_book.RowsBookRuleBook.count.Goals as goal

pub returns-clause-count : goal.returns-clause-count
returns-clause-count g c =
    omega (arith, c.count.ensures, ap (λ (rows : List (Row g.row.G.Denot)). length rows) c.self.view_is, book-count c.args.self.now)

pub returns-clause-some : goal.returns-clause-some
returns-clause-some g c = omega (arith, c.count.ensures, some-row c.self.inside.rows.now c.self.invariant.0)
