use Rattle.std.proofs.Common.{◌∙◌, ◌++◌, List, ap, arith, map}
use Rattle.cls_walk.specs.FrameColumns.{pair_of}
use Rattle.cls_walk.specs.FrameRules.{made_by, mades_at, pairs_at}
use Rattle.cls_walk.specs.declared.rules.Pair.{Pair}
use Rattle.cls_walk.proofs.FrameRules.{over-more}
use Rattle.cls_walk.proofs.rules.makes_of.Goals as goal

pub loop-node-preserved : goal.loop-node-preserved
loop-node-preserved c =
    let i = c.loop-node.node in
    let old = c.loop-node.makes.items in
    record {
      long = c.in_ok-add_made.ensures.long ∙ c.loop-node.invariant.long;
      made = λ n l. over-more (λ k. made_by n k (pairs_at c.args.pairs.now k)) i (mades_at old n) (mades_at c.add_made.new.makes.items n) (c.loop-node.invariant.made n l)
          (c.in_ok-add_made.ensures.made n (let e = c.loop-node.invariant.long in omega (arith, e, l)) ∙ ap (λ (ps : List Pair). mades_at old n ++ made_by n i (map pair_of ps)) c.pairs_by.ensures);
    }
