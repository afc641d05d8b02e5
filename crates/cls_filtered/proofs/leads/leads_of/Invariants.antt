use Rattle.std.proofs.Common.{◌≡◌, map}
use Rattle.cls_filtered.specs.Filtered.{below, pairs_to}
use Rattle.cls_filtered.proofs.leads.leads_of.Given as goal

abbrev pub invariant-loop-state : goal.invariant-loop-state
invariant-loop-state l = l.leads.items ≡ map (pairs_to l.filter) (below l.state)
