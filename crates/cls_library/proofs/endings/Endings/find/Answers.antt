use Rattle.std.proofs.Common.{◌≡◌, List, Some, false, sym, subst, ap, ◌∙◌}
use Rattle.std.specs.Prelude.{slice_get}
use Rattle.std.specs.List.{list_any}
use Rattle.std.proofs.lemmas.List.{drop_all}
use Rattle.std.proofs.lemmas.Option.{slice_get-get_or}
use Rattle.cls_library.specs.contracts.ending.EndingPartialEq.TheImpl.{eq-value}
use Rattle.cls_library.specs.declared.ending.Ending.{Ending}
use Rattle.cls_library.proofs.EndingLaws.{same-ending}
use Rattle.cls_library.proofs.Finding.{found-by, found-at, found-nowhere}
use Rattle.cls_library.proofs.endings.Endings.find.Goals as goal

pub returns-then-len-gt-FEW : goal.returns-then-len-gt-FEW
returns-then-len-gt-FEW c = found-by c.args.self.now.kinds.keys c.args.ending c.get_index_of.result c.len.ensures.unique c.get_index_of.ensures.index c.get_index_of.ensures.found

pub returns-then-eq : goal.returns-then-eq
returns-then-eq c =
    let items = c.as_slice-kind-items.result.now in
    let same = same-ending c.args.ending _ (sym c.eq.ensures ∙ c.if-eq.true) in
    let at = slice_get-get_or items c.loop-place.place _ c.loop-place-test.true ∙ ap (λ (x : Ending). Some x) (sym same) in
    found-at c.args.self.now.kinds.keys c.args.ending c.loop-place.place c.len.ensures.unique
    (subst (λ (keys : List Ending). slice_get keys c.loop-place.place ≡ Some c.args.ending) c.as_slice-kind-items.ensures.keys at)

pub returns : goal.returns
returns c =
    let items = c.as_slice-kind-items.result.now in
    let none : list_any (eq-value.it c.args.ending) items ≡ false = sym c.loop-place.invariant ∙ ap (list_any (eq-value.it c.args.ending)) (drop_all c.loop-place.place items c.loop-place-test.false) in
    found-nowhere c.args.self.now.kinds.keys c.args.ending (ap (list_any (eq-value.it c.args.ending)) (sym c.as_slice-kind-items.ensures.keys) ∙ none)
