use Rattle.std.proofs.Common.{List, ℕ, ◌+◌, sym, subst}
use Rattle.cls_term.specs.Costs.{cost_of}
use Rattle.cls_walk.specs.Bounds.{HasLower}
use Rattle.cls_walk.proofs.Tables.{lo-holds}
use Rattle.cls_walk.proofs.bounds.add_lower.Goals as goal

pub returns : goal.returns
returns g c =
    let book = g.B.RuleBook.book c.args.book.now in
    let cost = cost_of c.args.costs.now in
    let s = c.args.size in
    let P : List (List ℕ) → Type 0 = λ xs. HasLower book cost (s + 1) xs in
    subst P (sym c.in_ok-push.ensures.ok) (lo-holds book cost s c.args.table.now c.in_ok-column.column.items c.requires.lower c.in_ok-column.ensures)
