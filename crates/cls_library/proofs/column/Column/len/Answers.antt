use Rattle.std.proofs.Common.{◌≡◌, ℕ, List, length, sym, ap, ◌∙◌}
use Rattle.cls_library.specs.Splits.{numbers_from, places_in}
use Rattle.cls_library.proofs.Columns.{numbers-length}
use Rattle.cls_library.proofs.column.Column.len.Goals as goal

pub returns-in-All : goal.returns-in-All
returns-in-All c =
    let n = c.in-All.count in
    let seen : numbers_from 0 n ≡ c.args.self.now = ap places_in (sym c.in-All.is) ∙ c.self.view_is in
    sym (numbers-length 0 n) ∙ ap (λ (l : List ℕ). length l) seen
