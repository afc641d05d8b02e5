use Rattle.std.proofs.Common.{List, ℕ, ap, arith, length}
use Rattle.cls_walk.specs.Exact.{asked}
use Rattle.cls_walk.proofs.ExactCounts.{searched-start}
use Rattle.cls_walk.proofs.exact.by_sizes.Goals as goal

pub loop-size-init : goal.loop-size-init
loop-size-init c =
    let plan = c.args.plan.now in
    record {
      within = omega arith;
      few = omega (arith, ap (λ (ws : List (List ℕ)). length ws) c.requires.fresh.1);
      searched = λ book h. searched-start book (asked plan c.args.search) plan.positive c.args.walk.now c.requires.fresh.0 c.requires.fresh.1;
    }
