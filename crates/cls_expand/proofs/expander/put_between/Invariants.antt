use Rattle.std.proofs.Common.{ℕ, ◌≡◌, ◌+◌, ◌-◌, ◌*◌, ◌≤◌, [], length}
use Rattle.std.specs.Prelude.{map}
use Rattle.cls_path.specs.Paths.{listed}
use Rattle.cls_expand.specs.Answers.{rule_of}
use Rattle.cls_expand.specs.Making.{AreBegun}
use Rattle.cls_expand.proofs.Unreached.{IsReached}
use Rattle.cls_expand.proofs.expander.put_between.Given as goal

abbrev pub invariant-loop-place : goal.invariant-loop-place
invariant-loop-place l = record {
  finder : l.finder ≡ l.fn.finder;
  begun :
      (first : ℕ) → first ≤ l.begin → AreBegun l.lib (listed l.fn.finder.goal) first l.begin 0 [] (map rule_of l.fn.rules)
      → AreBegun l.lib (listed l.fn.finder.goal) first l.from.component l.from.count [] (map rule_of l.rules);
  after : l.begin ≤ l.from.component;
  left : IsReached l.from.component l.from.count l.end 0;
  count : l.from.count ≤ 33;
}

-- how many places are left at most, where a component has one for each number of arguments up to 33, one more than its
-- greatest arity
abbrev pub decreases-loop-place : goal.decreases-loop-place
decreases-loop-place l = (length l.lib.components + 1) * 34 - (l.from.component * 34 + l.from.count)
