use Rattle.std.proofs.Common.{◌≡◌, ◌+◌, length, take, slice_index_or}
use Rattle.indexmap.specs.IndexSet.{insert_all}
use Rattle.cls_core.specs.Arguments.{map_answer}
use Rattle.cls_core.specs.Closure.{goals_of}
use Rattle.cls_expand.specs.Memos.{newcomers}
use Rattle.cls_expand.proofs.additions.new_answers.Given as goal

abbrev pub invariant-loop-row : goal.invariant-loop-row
invariant-loop-row g l =
    let eq = g.G.PartialEq.eq in
    (l.answers.items ≡ newcomers eq (λ a. map_answer (λ i. slice_index_or l.numbers i 0) a) l.goals.keys (take l.row l.rows))
    × (length l.goals.keys + length l.answers.items ≡ length (insert_all eq l.goals.keys (take l.row (goals_of l.rows))))
