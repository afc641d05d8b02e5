use Rattle.std.proofs.Common.{◌∙◌, arith, rules}
use Rattle.cls_walk.specs.FrameRules.{mades_at}
use Rattle.cls_walk.proofs.FrameRules.{made-more, made-none, made-whole}
use Rattle.cls_walk.proofs.rules.add_made.Goals as goal

pub loop-pair-init : goal.loop-pair-init
loop-pair-init c = record { long = search rules; made = λ n l. made-none (mades_at c.args.makes.now.items n) }

pub loop-pair-preserved : goal.loop-pair-preserved
loop-pair-preserved c = record {
  long = c.in_ok-put_made.ensures.long ∙ c.loop-pair.invariant.long;
  made = λ n l. made-more n c.args.node c.args.pairs.now c.loop-pair.pair-index (mades_at c.args.makes.now.items n) (mades_at c.loop-pair.makes.items n) (mades_at c.put_made.new.makes.items n)
      c.loop-pair-test.true (c.loop-pair.invariant.made n l) (c.in_ok-put_made.ensures.made n (let e = c.loop-pair.invariant.long in omega (arith, e, l)));
}

pub returns-clause-made : goal.returns-clause-made
returns-clause-made c = λ n l. made-whole n c.args.node c.args.pairs.now c.loop-pair.pair-index (mades_at c.args.makes.now.items n) (mades_at c.loop-pair.makes.items n) c.loop-pair-test.false (c.loop-pair.invariant.made n l)
