use Rattle.std.proofs.Common.{◌-◌, ◌≤◌, length}
use Rattle.cls_library.specs.Leads.{AreBefore}
use Rattle.cls_library.proofs.lead.first_from.Given as goal

abbrev pub invariant-loop-at : goal.invariant-loop-at
invariant-loop-at l = record {
  within : l.at ≤ length l.entries;
  before : AreBefore l.entries l.place l.at;
}

abbrev pub decreases-loop-at : goal.decreases-loop-at
decreases-loop-at l = length l.entries - l.at
