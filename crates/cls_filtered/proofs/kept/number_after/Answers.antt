use Rattle.std.proofs.Common.{◌≡◌, ◌+◌, Bool, true, false, cond, sym, ap}
use Rattle.cls_filtered.proofs.kept.number_after.Goals as goal

pub returns-then-not-kept-clause-number : goal.returns-then-not-kept-clause-number
returns-then-not-kept-clause-number c =
    let no : c.args.kept ≡ false = c.if-not-kept.true in
    ap (λ (b : Bool). cond b (c.args.next + 1) c.args.next) (sym no)

pub returns-clause-number : goal.returns-clause-number
returns-clause-number c =
    let yes : c.args.kept ≡ true = c.if-not-kept.false in
    ap (λ (b : Bool). cond b (c.args.next + 1) c.args.next) (sym yes)
