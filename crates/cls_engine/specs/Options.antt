-- The ranges of what bounds the work on a query.
use Rattle.std.specs.Prelude.{◌<◌, ◌≤◌}
use Rattle.cls_base.specs.Limits.{max_workers}
use Rattle.cls_expand.specs.Memos.{max_memo_goals, max_memo_rules}
use Rattle.cls_engine.specs.declared.options.Options.{Options}

-- each option is within its range
pub record AreInRange (o : Options) : Type 0 where
  pub some_worker : 0 < o.workers
  pub few_workers : o.workers ≤ max_workers
  pub some_goal : 0 < o.goals
  pub few_goals : o.goals ≤ max_memo_goals
  pub some_rule : 0 < o.rules
  pub few_rules : o.rules ≤ max_memo_rules
