use Rattle.std.proofs.Common.{get_or, arith, refl}
use Rattle.cls_enum.specs.declared.plan.Place.{Place}
use Rattle.cls_enum.proofs.Planning.{nodes_of-push, AreFree-push}
use Rattle.cls_enum.proofs.plan.places.Goals as goal

pub loop-node-preserved : goal.loop-node-preserved
loop-node-preserved c =
    let i = c.loop-node.node-index in
    let p : Place = record { node = get_or c.args.nodes.now i 0; least = c.new.result } in
    record {
      nodes = rw c.in_ok-push.ensures.items (nodes_of-push c.loop-node.places.items p c.args.nodes.now i (omega (arith, c.loop-node-test.true)) c.loop-node.invariant.nodes refl);
      free = rw c.in_ok-push.ensures.items (AreFree-push c.loop-node.places.items p c.loop-node.invariant.free c.new.ensures.items);
    }
