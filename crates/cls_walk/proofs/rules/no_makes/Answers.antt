use Rattle.std.proofs.Common.{◌≡◌, ℕ, List, [], ap, arith, length, map}
use Rattle.std.proofs.lemmas.List.{length_push}
use Rattle.cls_walk.specs.FrameColumns.{made_of}
use Rattle.cls_walk.specs.declared.rules.Made.{Made}
use Rattle.cls_walk.proofs.FrameRules.{columns-more}
use Rattle.cls_walk.proofs.rules.no_makes.Goals as goal

pub loop-node-preserved : goal.loop-node-preserved
loop-node-preserved c =
    let old = c.loop-node.makes.items in
    let P : ℕ → List Made → Type 0 = λ n ms. map made_of ms ≡ [] in
    record {
      long = omega (arith, ap length c.in_ok-push.ensures.items, length_push old c.new.result, c.loop-node.invariant.long);
      none = columns-more (λ v. v.items) P old c.push.new.self.items c.new.result c.loop-node._node c.in_ok-push.ensures.items c.loop-node.invariant.long c.loop-node.invariant.none (ap (λ ms. map made_of ms) c.new.ensures.items);
    }
