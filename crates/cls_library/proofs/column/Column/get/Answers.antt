use Rattle.std.proofs.Common.{◌≡◌, ◌+◌, ℕ, List, length, get_or, sym, subst, ap, ◌∙◌, arith}
use Rattle.std.specs.Prelude.{slice_index_or}
use Rattle.std.proofs.lemmas.Option.{get_or_from_slice_get}
use Rattle.cls_library.specs.Splits.{numbers_from, places_in}
use Rattle.cls_library.proofs.Columns.{numbers-at, numbers-length}
use Rattle.cls_library.proofs.column.Column.get.Goals as goal

pub returns-in-All : goal.returns-in-All
returns-in-All c =
    let n = c.in-All.field-0 in
    let seen : numbers_from 0 n ≡ c.args.self.now = ap places_in (sym c.in-All.is) ∙ c.self.view_is in
    let i = c.args.i in
    let l = c.requires in
    let e = ap (λ (l : List ℕ). length l) seen in
    let m = numbers-length 0 n in
    let at : get_or (numbers_from 0 n) i 0 ≡ 0 + i = get_or_from_slice_get (numbers_from 0 n) i (0 + i) 0 (numbers-at 0 n i (omega arith)) in
    subst (λ (l : List ℕ). i ≡ slice_index_or l i 0) seen (let z : i ≡ get_or (numbers_from 0 n) i 0 = omega arith in z)
