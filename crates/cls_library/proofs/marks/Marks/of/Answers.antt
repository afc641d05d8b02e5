use Rattle.std.proofs.Common.{List, ◌++◌, ◌∷◌, [], take, get_or, sym, subst}
use Rattle.std.proofs.lemmas.List.{take_more, take_all, length-set}
use Rattle.cls_library.specs.declared.ending.Ending.{Ending}
use Rattle.cls_library.specs.declared.ending.Head.TheVariants.{Covariant}
use Rattle.cls_library.proofs.Marking.{EachMarked, with_mark, marked-more, marked-paths}
use Rattle.cls_library.proofs.marks.Marks.of.Goals as goal

pub loop-kind-preserved : goal.loop-kind-preserved
loop-kind-preserved c =
    let items = c.args.kinds.now in
    let i = c.loop-kind.kind-index in
    let e : Ending = get_or items i (record { arrows = 0; head = Covariant (record { 0 = 0 }) }) in
    let words = c.loop-kind.words in
    let more : EachMarked (with_mark words c.mark-mark.result) (take i items ++ e ∷ []) =
    subst (λ k. EachMarked (with_mark words k) (take i items ++ e ∷ [])) (sym c.mark-mark.ensures.mark) (marked-more words (take i items) e c.loop-kind.invariant.count c.loop-kind.invariant.marked) in
    record {
      marked = rw (take_more items i (record { arrows = 0; head = Covariant (record { 0 = 0 }) }) c.loop-kind-test.true) more;
      count = simp length-set c.loop-kind.invariant.count;
    }

pub returns : goal.returns
returns c =
    let items = c.args.kinds.now in
    let words = c.loop-kind.words in
    marked-paths words items (subst (λ (es : List Ending). EachMarked words es) (take_all c.loop-kind.kind-index items c.loop-kind-test.false) c.loop-kind.invariant.marked)
