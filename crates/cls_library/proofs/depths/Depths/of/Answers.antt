use Rattle.std.proofs.Common.{List, take, get_or, subst}
use Rattle.std.proofs.lemmas.List.{take_more, take_all}
use Rattle.cls_library.specs.declared.ending.Ending.{Ending}
use Rattle.cls_library.specs.declared.ending.Head.TheVariants.{Covariant}
use Rattle.cls_library.proofs.Marking.{EachDeep, deep-more, deep-paths}
use Rattle.cls_library.proofs.depths.Depths.of.Goals as goal

pub loop-kind-preserved : goal.loop-kind-preserved
loop-kind-preserved c =
    let items = c.args.kinds.now in
    let i = c.loop-kind.kind-index in
    let e : Ending = get_or items i (record { arrows = 0; head = Covariant (record { 0 = 0 }) }) in
    rw (c.min.ensures, take_more items i (record { arrows = 0; head = Covariant (record { 0 = 0 }) }) c.loop-kind-test.true)
    (deep-more c.loop-kind.word (take i items) e c.loop-kind.invariant)

pub returns : goal.returns
returns c =
    let items = c.args.kinds.now in
    let word = c.loop-kind.word in
    deep-paths word items (subst (λ (es : List Ending). EachDeep word es) (take_all c.loop-kind.kind-index items c.loop-kind-test.false) c.loop-kind.invariant)
