use Rattle.std.proofs.Common.{◌≡◌, ◌≤◌, length, take}
use Rattle.indexmap.specs.IndexSet.{insert_all}
use Rattle.cls_core.specs.Adding.{GoesOn}
use Rattle.cls_core.specs.Numbers.{numbers_from}
use Rattle.cls_core.proofs.numbering.number_goals.Given as goal

abbrev pub invariant-loop-goal : goal.invariant-loop-goal
invariant-loop-goal g l = record {
  added : l.rows.keys ≡ insert_all g.G.PartialEq.eq l.fn.rows.keys (take l.goal-index l.goals);
  numbered : l.numbers.items ≡ numbers_from g.G.PartialEq.eq l.fn.rows.keys (take l.goal-index l.goals);
  few : length l.rows.keys ≤ l.most;
  front : GoesOn l.fn.rows.keys l.rows.keys;
}
