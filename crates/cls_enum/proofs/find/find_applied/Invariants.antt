use Rattle.std.proofs.Common.{map, take}
use Rattle.std.specs.List.{flat_map}
use Rattle.cls_term.specs.Banks.{at}
use Rattle.cls_enum.specs.Candidates.{fills}
use Rattle.cls_enum.specs.CellTables.{cell_of}
use Rattle.cls_enum.specs.Members.{IsAdded}
use Rattle.cls_enum.specs.Plans.{nodes_of}
use Rattle.cls_enum.proofs.find.find_applied.Given as goal

abbrev pub invariant-loop-number : goal.invariant-loop-number
invariant-loop-number l =
    let cell = cell_of l.held.bank.now l.held.cells.now in
    IsAdded l.held.bank.now l.fn.found (flat_map (λ f. fills cell f (nodes_of l.places) l.rest) (map (at l.held.bank.now) (take l.number-index l.numbers))) l.found
