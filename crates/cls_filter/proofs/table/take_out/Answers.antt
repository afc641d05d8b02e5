use Rattle.std.proofs.Common.{arith}
use Rattle.cls_filter.proofs.Tables.{none_removed}
use Rattle.cls_filter.proofs.table.take_out.Goals as goal

pub returns-then-place-len : goal.returns-then-place-len
returns-then-place-len c =
    none_removed c.args.said.now.items c.args.number (omega (arith, c.if-place-len.true, c.len-len.ensures, c.args.said.now.ok.0))
