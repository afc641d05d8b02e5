use Rattle.std.proofs.Common.{ℕ, ◌≤◌, List}
use Rattle.cls_base.specs.declared.rule.Rule.{Rule}
use Rattle.cls_walk.specs.Exact.{asked, IsSearch, MadeIs}
use Rattle.cls_walk.proofs.pool_count.count_others.Given as goal

abbrev pub invariant-loop-node : goal.invariant-loop-node
invariant-loop-node l = record {
  within : l.total ≤ l.search.pool;
  made : (book : List (List (Rule ℕ))) → let r = asked l.plan l.search in
      IsSearch book l.plan l.search → MadeIs book r l.size 1 l.made → MadeIs book r l.size l.node l.total;
}
