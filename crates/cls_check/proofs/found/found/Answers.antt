use Rattle.std.proofs.Common.{List, ℕ, subst}
use Rattle.cls_check.specs.Asking.{goals_of}
use Rattle.cls_check.specs.Deciding.{IsLeading}
use Rattle.cls_check.specs.Found.{Adds}
use Rattle.cls_check.specs.Places.{arrows_in}
use Rattle.cls_check.proofs.FoundLaws.{adds-all}
use Rattle.cls_check.proofs.found.found.Goals as goal

pub returns-then-branch : goal.returns-then-branch
returns-then-branch c =
    let arrows = arrows_in c.args.lib.now c.args.place in
    let leads = IsLeading c.args.lib.now (goals_of c.args.asked.now) in
    let new = c.put_asked.new.positions.items in
    adds-all arrows leads new (subst (λ (old : List ℕ). Adds arrows leads old new) c.new-positions.ensures.items (c.in_ok-put_asked.ensures c.if-branch.true))
