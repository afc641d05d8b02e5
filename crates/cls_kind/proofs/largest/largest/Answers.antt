use Rattle.std.proofs.Common.{List, map, refl, subst}
use Rattle.std.proofs.lemmas.List.{map-append, take_all}
use Rattle.cls_kind.specs.declared.ranges.Range.{Range}
use Rattle.cls_kind.specs.Ranges.{AreLargest, chosen_of, range_of}
use Rattle.cls_kind.proofs.Choosing.{filled, largest_next}
use Rattle.cls_kind.proofs.largest.largest.Goals as goal

pub unreachable-requires : goal.unreachable-requires
unreachable-requires c =
    filled c.args.ranges.now c.loop-range.range-index c.range-item.result c.loop-range-test.true c.range-item.is c.requires (c.in_default.ensures.none.0 refl)

pub loop-range-preserved : goal.loop-range-preserved
loop-range-preserved c =
    rw (c.in_ok-push.ensures.items, map-append chosen_of c.loop-range.chosen.items)
    (largest_next c.args.ranges.now c.loop-range.range-index c.range-item.result c.loop-range-test.true c.range-item.is (map chosen_of c.loop-range.chosen.items) c.in-Some.ty.now c.loop-range.invariant c.in-Some.ensures.largest)

pub returns : goal.returns
returns c =
    subst (λ (rs : List Range). AreLargest (map range_of rs) (map chosen_of c.loop-range.chosen.items))
    (take_all c.loop-range.range-index c.args.ranges.now c.loop-range-test.false) c.loop-range.invariant
