use Rattle.std.proofs.Common.{◌≡◌, ℕ, ◌+◌, List, take}
use Rattle.cls_base.specs.declared.rule.Rule.{Rule}
use Rattle.cls_enum.specs.CellTables.{cell_of}
use Rattle.cls_enum.specs.Plans.{book_of, AllReady, AreWhole}
use Rattle.cls_enum.proofs.bounds.extended.Given as goal

abbrev pub invariant-loop-node : goal.invariant-loop-node
invariant-loop-node l = record {
  made : book_of l.new.items ≡ book_of (take l.node-index l.plans);
  ready : (b : List (List (Rule ℕ))) (cost : ℕ → ℕ) → AreWhole b cost (cell_of l.bank l.cells) l.size → AllReady b cost l.size l.plans → AllReady b cost (l.size + 1) l.new.items;
}
