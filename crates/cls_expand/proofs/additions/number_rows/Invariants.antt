use Rattle.std.proofs.Common.{◌≡◌, ◌++◌, take}
use Rattle.indexmap.specs.IndexSet.{insert_all}
use Rattle.cls_core.specs.Closure.{goals_of}
use Rattle.cls_core.specs.Numbers.{numbers_from}
use Rattle.cls_expand.proofs.additions.number_rows.Given as goal

abbrev pub invariant-loop-row : goal.invariant-loop-row
invariant-loop-row g l =
    (l.goals.keys ++ l.added.keys ≡ insert_all g.G.PartialEq.eq l.goals.keys (take l.row (goals_of l.rows)))
    × (l.numbers.items ≡ numbers_from g.G.PartialEq.eq l.goals.keys (take l.row (goals_of l.rows)))
