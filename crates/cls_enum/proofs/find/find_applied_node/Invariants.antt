use Rattle.std.proofs.Common.{◌-◌}
use Rattle.std.specs.List.{flat_map}
use Rattle.cls_enum.specs.Candidates.{over, fills}
use Rattle.cls_enum.specs.CellTables.{cell_of}
use Rattle.cls_enum.specs.Members.{IsAdded}
use Rattle.cls_enum.specs.Plans.{nodes_of}
use Rattle.cls_enum.proofs.find.find_applied_node.Given as goal

abbrev pub invariant-loop-smaller : goal.invariant-loop-smaller
invariant-loop-smaller l =
    let cell = cell_of l.held.bank.now l.held.cells.now in
    IsAdded l.held.bank.now l.fn.found (over l.smaller (λ t. flat_map (λ f. fills cell f (nodes_of l.places) (l.size - t)) (cell t l.left))) l.found
