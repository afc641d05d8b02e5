use Rattle.std.proofs.Common.{◌≤◌, length, arith}
use Rattle.cls_library.proofs.Indexing.{index-whole}
use Rattle.cls_library.proofs.index.Index.new.Goals as goal

pub returns : goal.returns
returns c =
    let cs = c.args.components.now in
    let end = c.loop-x-test.false in
    let all : length cs ≤ c.loop-x.x = omega arith in
    index-whole cs c.loop-x.index c.loop-x.x 0 0 all c.loop-x.invariant
