use Rattle.std.proofs.Common.{arith}
use Rattle.cls_engine.proofs.Changed.{remove_past}
use Rattle.cls_engine.proofs.changing.remove_at.Goals as goal

pub returns-then-place-len : goal.returns-then-place-len
returns-then-place-len c =
    remove_past c.args.items.now.items c.args.number (omega (arith, c.if-place-len.true, c.len-len.ensures, c.args.items.now.ok.0))
