use Rattle.std.proofs.Common.{◌≡◌, ℕ, ◌+◌, List, take}
use Rattle.cls_base.specs.declared.rule.Rule.{Rule}
use Rattle.cls_enum.specs.CellTables.{cell_of}
use Rattle.cls_enum.specs.Plans.{rules_of, AreReady, AreWhole}
use Rattle.cls_enum.proofs.bounds.extended_node.Given as goal

abbrev pub invariant-loop-plan : goal.invariant-loop-plan
invariant-loop-plan l = record {
  rules : rules_of l.new.items ≡ rules_of (take l.plan-index l.plans);
  ready : (b : List (List (Rule ℕ))) (cost : ℕ → ℕ) → AreWhole b cost (cell_of l.bank l.cells) l.size → AreReady b cost l.size l.plans → AreReady b cost (l.size + 1) l.new.items;
}
