use Rattle.std.proofs.Common.{◌<◌, ◌≤◌, length, arith, ◌∙◌}
use Rattle.std.proofs.lemmas.List.{length-set}
use Rattle.cls_filter.specs.Lines.{pair_said}
use Rattle.cls_filter.proofs.Tables.{mapped, mapped_all}
use Rattle.cls_filter.proofs.table.put_pairs.Goals as goal

pub loop-number-preserved : goal.loop-number-preserved
loop-number-preserved c =
    let i = c.loop-number.number in
    let within : i < length c.args.pairs.now = omega (arith, c.loop-number-test.true, c.loop-number.invariant.whole) in
    record {
      whole = c.loop-number.invariant.whole;
      count = length-set c.loop-number.pairs i c.pair_said.result ∙ c.loop-number.invariant.count;
      so_far = mapped (pair_said c.args.left c.args.right c.args.state) c.args.pairs.now c.loop-number.pairs i c.pair_said.result within c.loop-number.invariant.so_far c.pair_said.ensures;
    }

pub returns : goal.returns
returns c =
    let past : length c.args.pairs.now ≤ c.loop-number.number = omega (arith, c.loop-number-test.false, c.loop-number.invariant.whole) in
    mapped_all (pair_said c.args.left c.args.right c.args.state) c.args.pairs.now c.loop-number.pairs c.loop-number.number past c.loop-number.invariant.so_far
