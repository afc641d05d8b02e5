use Rattle.std.proofs.Common.{◌≡◌, drop}
use Rattle.cls_grammar.specs.Grammars.{first_wide}
use Rattle.cls_engine.proofs.rows_book.wide_row.Given as goal

-- the first wide row is not among those before
abbrev pub invariant-loop-row : goal.invariant-loop-row
invariant-loop-row g l = first_wide (drop l.row l.rows) ≡ first_wide l.rows
