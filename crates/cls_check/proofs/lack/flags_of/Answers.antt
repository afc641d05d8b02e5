use Rattle.std.proofs.Common.{get_or, true, arith, ◌∙◌}
use Rattle.std.proofs.lemmas.List.{length-set}
use Rattle.cls_base.proofs.Lists.{AreBelow-at}
use Rattle.cls_check.proofs.Sets.{flagged_more, flagged_all}
use Rattle.cls_check.proofs.lack.flags_of.Goals as goal

pub index_mut-requires : goal.index_mut-requires
index_mut-requires c = let m = AreBelow-at c.args.count c.args.set.now c.loop-number.number-index c.requires c.loop-number-test.true in let e = c.loop-number.invariant.count in omega arith

pub loop-number-preserved : goal.loop-number-preserved
loop-number-preserved c =
    let m = AreBelow-at c.args.count c.args.set.now c.loop-number.number-index c.requires c.loop-number-test.true in
    let e = c.loop-number.invariant.count in
    record {
      count = length-set c.loop-number.flags.items (get_or c.args.set.now c.loop-number.number-index 0) true ∙ c.loop-number.invariant.count;
      flagged = flagged_more c.loop-number.flags.items c.args.set.now c.loop-number.number-index (omega arith) c.loop-number.invariant.flagged;
    }

pub returns-clause-flagged : goal.returns-clause-flagged
returns-clause-flagged c = flagged_all c.loop-number.flags.items c.args.set.now c.loop-number.number-index (omega arith) c.loop-number.invariant.flagged
