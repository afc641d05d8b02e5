use Rattle.std.proofs.Common.{◌≤◌, List, length, sym, subst, arith}
use Rattle.cls_core.specs.Machine.{rules_in}
use Rattle.cls_core.specs.Rows.{Row}
use Rattle.cls_expand.specs.Memos.{FitMemo}
use Rattle.cls_expand.proofs.Keeping.{filed-at-most}
use Rattle.cls_machine_tests.specs.declared.heap.Node.{Node}
use Rattle.cls_machine_tests.proofs.memo_tests.a_memo_is_asked_before_its_expander.Goals as goal

pub keep-requires-clause-fit : goal.keep-requires-clause-fit
keep-requires-clause-fit g c =
    let w = c.in-Ok.ensures.complete in
    let h = filed-at-most w.rows.goals w.rows.states in
    let a : length w.rows.goals ≤ 7 = w.goals_within in
    let b : rules_in w.rows.states ≤ 7 = w.rules_within in
    subst (λ (rows : List (Row Node)). FitMemo rows) (sym w.shown_rows) ((let l = h.0 in omega arith), (let l = h.1 in omega arith))
