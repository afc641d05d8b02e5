use Rattle.std.proofs.Common.{map}
use Rattle.std.proofs.lemmas.List.{map-append}
use Rattle.cls_kind.specs.Ranges.{chosen_of}
use Rattle.cls_kind.proofs.Choosing.{length-positive, block-positive, number-within, chooses-more}
use Rattle.cls_kind.proofs.left.choose.Goals as goal

pub nonzero_div-block : goal.nonzero_div-block
nonzero_div-block c =
    length-positive c.args.ranges.now c.loop-range.range-index c.range-item.result c.loop-range-test.true c.range-item.is c.args.number c.loop-range.block c.loop-range.rest (map chosen_of c.loop-range.chosen.items) c.loop-range.invariant

pub nonzero_div-rest : goal.nonzero_div-rest
nonzero_div-rest c =
    block-positive c.args.ranges.now c.loop-range.range-index c.range-item.result c.loop-range-test.true c.range-item.is c.args.number c.loop-range.block c.loop-range.rest (map chosen_of c.loop-range.chosen.items) c.loop-range.invariant

pub bounds-range-rest : goal.bounds-range-rest
bounds-range-rest c =
    number-within c.args.ranges.now c.loop-range.range-index c.range-item.result c.loop-range-test.true c.range-item.is c.args.number c.loop-range.block c.loop-range.rest (map chosen_of c.loop-range.chosen.items) c.loop-range.invariant

pub nonzero_rem-rest : goal.nonzero_rem-rest
nonzero_rem-rest c =
    block-positive c.args.ranges.now c.loop-range.range-index c.range-item.result c.loop-range-test.true c.range-item.is c.args.number c.loop-range.block c.loop-range.rest (map chosen_of c.loop-range.chosen.items) c.loop-range.invariant

pub loop-range-preserved : goal.loop-range-preserved
loop-range-preserved c =
    rw (c.in_ok-push.ensures.items, map-append chosen_of c.loop-range.chosen.items)
    (chooses-more c.args.ranges.now c.loop-range.range-index c.range-item.result c.loop-range-test.true c.range-item.is c.args.number c.loop-range.block c.loop-range.rest (map chosen_of c.loop-range.chosen.items) c.loop-range.invariant c.index-range-rest.result)
