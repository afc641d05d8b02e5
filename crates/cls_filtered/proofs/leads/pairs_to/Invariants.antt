use Rattle.std.proofs.Common.{◌≡◌}
use Rattle.std.specs.Prelude.{filter}
use Rattle.std.specs.List.{flat_map}
use Rattle.cls_filtered.specs.Filtered.{below, leads_to, left_pairs}
use Rattle.cls_filtered.proofs.leads.pairs_to.Given as goal

abbrev pub invariant-loop-left : goal.invariant-loop-left
invariant-loop-left l = l.pairs ≡ filter (leads_to l.filter l.state) (flat_map left_pairs (below l.left))
