use Rattle.std.proofs.Common.{ap, arith, length}
use Rattle.std.proofs.lemmas.List.{length_push}
use Rattle.cls_term.specs.Costs.{cost_of}
use Rattle.cls_walk.specs.FrameRules.{head_size}
use Rattle.cls_walk.proofs.FrameLeast.{totals-next}
use Rattle.cls_walk.proofs.smallest.head_sizes_of.Goals as goal

pub loop-head-preserved : goal.loop-head-preserved
loop-head-preserved c =
    record {
      long = omega (arith, ap length c.in_ok-push.ensures.items, length_push c.loop-head.sizes.items c.size_of_head.result, c.loop-head.invariant.long);
      each = totals-next (head_size (cost_of c.args.costs.now) c.args.least.now) c.args.heads.now c.loop-head.head-index c.loop-head.sizes.items c.push.new.self.items c.size_of_head.result c.in_ok-push.ensures.items c.loop-head.invariant.long c.loop-head.invariant.each c.size_of_head.ensures;
    }
