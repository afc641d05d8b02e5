use Rattle.std.proofs.Common.{◌≡◌, ◌-◌, Some, inr, sym, ap, ◌∙◌, arith}
use Rattle.std.specs.Prelude.{slice_get}
use Rattle.std.proofs.lemmas.Option.{slice_get-get_or}
use Rattle.cls_library.specs.declared.index.Entry.{Entry}
use Rattle.cls_library.proofs.Indexing.{merges-last}
use Rattle.cls_library.proofs.Orders.{equal_place}
use Rattle.cls_library.proofs.index.put_last.Goals as goal

pub returns-then-eq : goal.returns-then-eq
returns-then-eq c =
    let old = c.args.entries.now.items in
    let k = c.len-count.result - 1 in
    let s : Entry = c.index.result.now in
    let n = c.len-count.ensures in
    let some = c.if-count-gt0.true in
    let at : slice_get old k ≡ Some s = slice_get-get_or old k s (omega arith) ∙ ap (λ (x : Entry). Some x) (sym c.index.ensures) in
    inr (merges-last c.args.place old k s (omega arith) at (equal_place s.place c.args.place (sym c.eq.ensures ∙ c.if-eq.true)))
