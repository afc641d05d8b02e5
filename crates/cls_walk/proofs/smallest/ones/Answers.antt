use Rattle.std.proofs.Common.{◌≡◌, ℕ, ap, arith, length, refl}
use Rattle.std.proofs.lemmas.List.{length_push}
use Rattle.cls_walk.proofs.FrameRules.{each-more}
use Rattle.cls_walk.proofs.smallest.ones.Goals as goal

pub loop-node-preserved : goal.loop-node-preserved
loop-node-preserved c =
    let P : ℕ → ℕ → Type 0 = λ n x. x ≡ 1 in
    record {
      long = omega (arith, ap length c.in_ok-push.ensures.items, length_push c.loop-node.least.items 1, c.loop-node.invariant.long);
      ones = each-more P 0 c.loop-node.least.items c.push.new.self.items 1 c.loop-node._node c.in_ok-push.ensures.items c.loop-node.invariant.long c.loop-node.invariant.ones refl;
    }
