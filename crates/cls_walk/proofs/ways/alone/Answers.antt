use Rattle.std.proofs.Common.{arith, ap, length}
use Rattle.std.proofs.lemmas.List.{length_push}
use Rattle.cls_walk.specs.Tables.{number_at}
use Rattle.cls_walk.proofs.Alone.{one-push}
use Rattle.cls_walk.proofs.ways.alone.Goals as goal

pub loop-rest-preserved : goal.loop-rest-preserved
loop-rest-preserved c = record {
  ways = one-push (number_at c.args.table.now) c.args.node c.loop-rest.list.items c.push.new.self.items c.get.result c.loop-rest.rest c.loop-rest.invariant.long c.get.ensures (omega (arith, c.get.type_inv)) c.in_ok-push.ensures.items c.loop-rest.invariant.ways;
  long = omega (arith, ap length c.in_ok-push.ensures.items, length_push c.loop-rest.list.items c.get.result, c.loop-rest.invariant.long);
}
