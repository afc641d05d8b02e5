use Rattle.std.proofs.Common.{◌≡◌, take}
use Rattle.cls_enum.specs.Plans.{nodes_of, AreFree}
use Rattle.cls_enum.proofs.plan.places.Given as goal

abbrev pub invariant-loop-node : goal.invariant-loop-node
invariant-loop-node l = record {
  nodes : nodes_of l.places.items ≡ take l.node-index l.nodes;
  free : AreFree l.places.items;
}
