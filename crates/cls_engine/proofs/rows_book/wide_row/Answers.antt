use Rattle.std.proofs.Common.{◌≡◌, ◌≤◌, ◌+◌, ℕ, suc, length, drop, sym, ap, subst, ◌∙◌, arith}
use Rattle.std.specs.Prelude.{option_map}
use Rattle.cls_core.specs.Rows.{Row}
use Rattle.cls_grammar.specs.Grammars.{first_wide}
use Rattle.cls_grammar.proofs.Climbing.{drop-end}
use Rattle.cls_engine.proofs.RowsBooks.{first-here, first-later, row-with}
use Rattle.cls_engine.proofs.rows_book.wide_row.Goals as goal

pub returns-in-None-clause-wide : goal.returns-in-None-clause-wide
returns-in-None-clause-wide g c =
    let rows = c.args.rows.now in
    let k = c.loop-row.row in
    let r = row-with rows k c.answer.result.now c.answer.ensures in
    sym c.loop-row.invariant
    ∙ (first-here rows k r.0 r.1 (r.2 ∙ c.in-None.ensures.wide) ∙ sym (ap (option_map (λ (x : Row g.row.G.Denot). x.goal)) r.1))

pub loop-row-preserved : goal.loop-row-preserved
loop-row-preserved g c =
    let rows = c.args.rows.now in
    let k = c.loop-row.row in
    let r = row-with rows k c.answer.result.now c.answer.ensures in
    let later = first-later rows k r.0 _ r.1 (r.2 ∙ c.in-Some.ensures.rules) in
    subst (λ (n : ℕ). first_wide (drop n rows) ≡ first_wide rows) (let next : suc k ≡ k + 1 = omega arith in next) (later ∙ c.loop-row.invariant)

pub returns-clause-none : goal.returns-clause-none
returns-clause-none g c =
    let rows = c.args.rows.now in
    let past : length rows ≤ c.loop-row.row = omega (arith, c.loop-row-test.false, c.count-row-end.ensures) in
    sym c.loop-row.invariant ∙ ap first_wide (drop-end c.loop-row.row rows past)
