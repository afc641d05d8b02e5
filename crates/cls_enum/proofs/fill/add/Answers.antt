use Rattle.std.proofs.Common.{arith}
use Rattle.cls_enum.proofs.Additions.{IsAdded-spine, IsOverfull-found}
use Rattle.cls_enum.proofs.fill.add.Goals as goal

pub returns-clause-added : goal.returns-clause-added
returns-clause-added c =
    IsAdded-spine c.args.held.now.bank.now c.args.found.now c.insert.new.self (c.args.head, c.args.args.now) c.count-count.ensures.different c.requires.found c.requires.args c.requires.short c.in_ok-insert.ensures.joined

pub returns-then-len-held-clause-over : goal.returns-then-len-held-clause-over
returns-then-len-held-clause-over c =
    let a = IsAdded-spine c.args.held.now.bank.now c.args.found.now c.insert.new.self (c.args.head, c.args.args.now) c.count-count.ensures.different c.requires.found c.requires.args c.requires.short c.in_ok-insert.ensures.joined in
    IsOverfull-found c.args.held.now.bank.now c.args.held.now.limit c.args.found.now c.insert.new.self _ a (omega (arith, c.if-len-held.true, c.len.ensures))
