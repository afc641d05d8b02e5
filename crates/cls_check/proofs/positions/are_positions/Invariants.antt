use Rattle.std.proofs.Common.{◌↔◌, ◌≤◌, drop}
use Rattle.cls_check.proofs.Rising.{RiseFrom}
use Rattle.cls_check.proofs.positions.are_positions.Given as goal

abbrev pub invariant-loop-position : goal.invariant-loop-position
invariant-loop-position l = record {
  left : RiseFrom l.least l.count (drop l.position-index l.positions) ↔ RiseFrom 0 l.count l.positions;
  small : l.least ≤ l.count;
}
