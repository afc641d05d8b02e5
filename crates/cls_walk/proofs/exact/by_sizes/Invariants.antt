use Rattle.std.proofs.Common.{ℕ, ◌≤◌, List, length}
use Rattle.cls_base.specs.declared.rule.Rule.{Rule}
use Rattle.cls_walk.specs.Exact.{asked, IsSearch, IsSearched}
use Rattle.cls_walk.proofs.exact.by_sizes.Given as goal

abbrev pub invariant-loop-size : goal.invariant-loop-size
invariant-loop-size l = record {
  within : l.made ≤ l.search.pool;
  few : length l.walk.codes ≤ l.plan.take;
  searched : (book : List (List (Rule ℕ))) → IsSearch book l.plan l.search → IsSearched book (asked l.plan l.search) l.size l.made l.walk;
}
