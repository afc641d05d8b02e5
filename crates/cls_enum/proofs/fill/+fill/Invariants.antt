use Rattle.std.proofs.Common.{◌+◌, ◌-◌, ◌*◌, map, take, length}
use Rattle.std.specs.List.{flat_map}
use Rattle.cls_base.specs.Terms.{apply}
use Rattle.cls_term.specs.Banks.{at}
use Rattle.cls_enum.specs.PartialTerms.{partial_term, IsAsBefore}
use Rattle.cls_enum.specs.Candidates.{over, fills}
use Rattle.cls_enum.specs.CellTables.{cell_of}
use Rattle.cls_enum.specs.Members.{IsAdded}
use Rattle.cls_enum.specs.Plans.{nodes_of}
use Rattle.cls_enum.proofs.fill.+fill.Given as goal

abbrev pub decreases-fill : goal.decreases-fill
decreases-fill l = 2 * length l.places.now

abbrev pub decreases-fill_each : goal.decreases-fill_each
decreases-fill_each l = 2 * length l.places.now + 1

abbrev pub invariant-fill-loop-size : goal.invariant-fill-loop-size
invariant-fill-loop-size l =
    let cell = cell_of l.held.bank.now l.held.cells.now in
    record {
      same : IsAsBefore l.fn.partial l.partial;
      added : IsAdded l.held.bank.now l.fn.found (over l.size (λ t. flat_map (λ a. fills cell (apply (partial_term l.held.bank.now l.fn.partial) a) (nodes_of l.others) (l.rest - t)) (cell t l.place.node))) l.found;
    }

abbrev pub invariant-fill_each-loop-number : goal.invariant-fill_each-loop-number
invariant-fill_each-loop-number l =
    let cell = cell_of l.held.bank.now l.held.cells.now in
    record {
      same : IsAsBefore l.fn.partial l.partial;
      added : IsAdded l.held.bank.now l.fn.found (flat_map (λ a. fills cell (apply (partial_term l.held.bank.now l.fn.partial) a) (nodes_of l.places) l.rest) (map (at l.held.bank.now) (take l.number-index l.numbers))) l.found;
    }
