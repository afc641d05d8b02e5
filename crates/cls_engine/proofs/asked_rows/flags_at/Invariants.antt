use Rattle.std.proofs.Common.{◌≡◌, false, map, take, slice_index_or}
use Rattle.cls_engine.proofs.asked_rows.flags_at.Given as goal

abbrev pub invariant-loop-node : goal.invariant-loop-node
invariant-loop-node l = l.found.items ≡ map (λ n. slice_index_or l.flags n false) (take l.node-index l.nodes)
