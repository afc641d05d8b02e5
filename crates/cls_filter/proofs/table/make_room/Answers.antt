use Rattle.std.proofs.Common.{◌∙◌, arith}
use Rattle.cls_filter.proofs.Tables.{enough_room, more_room}
use Rattle.cls_filter.proofs.table.make_room.Goals as goal

pub returns-then-count-len-clause-ok : goal.returns-then-count-len-clause-ok
returns-then-count-len-clause-ok c =
    enough_room c.args.said.now.items c.args.number (omega (arith, c.if-count-len.true, c.len-len.ensures, c.args.said.now.ok.0))

pub returns-clause-ok : goal.returns-clause-ok
returns-clause-ok c =
    c.in_ok-resize.ensures.items ∙ more_room c.args.said.now.items c.args.number c.args.said.now.len (omega (arith, c.args.said.now.ok.0)) (omega (arith, c.if-count-len.false, c.len-len.ensures, c.args.said.now.ok.0))
