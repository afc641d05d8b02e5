use Rattle.std.proofs.Common.{◌<◌, ◌^◌, arith}
use Rattle.cls_cover.proofs.Halves.{members_by_halves}
use Rattle.cls_cover.proofs.sets.put_members.Goals as goal

pub returns : goal.returns
returns c =
    let l : c.args.set < 2 ^ 128 = omega arith in
    members_by_halves c.args.set l c.args.list.now.items c.put_half.new.list.items c.put_half-2.new.list.items c.in_ok-put_half.ensures c.in_ok-put_half-2.ensures
