use Rattle.std.proofs.Common.{get_or, arith}
use Rattle.cls_cover.specs.Rows.{family_at}
use Rattle.cls_cover.proofs.SetBits.{shares_sets}
use Rattle.cls_cover.proofs.small.meets.Goals as goal

pub returns : goal.returns
returns c =
    let b = c.requires.begun in
    shares_sets (family_at c.args.begun.now.families.now c.args.begun.now.count) c.args.cover (get_or c.args.begun.now.sets.now c.args.begun.now.count 0) (omega arith) (b.sets.each c.args.begun.now.count b.more)
