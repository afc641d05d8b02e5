use Rattle.std.proofs.Common.{ℕ, List, map, take, sym, subst, arith}
use Rattle.cls_cover.specs.Sets.{members, AreSetsOf}
use Rattle.cls_cover.proofs.Public.{to_covers, from_more}
use Rattle.cls_cover.proofs.Choosing.{all_in_order, covers_apart}
use Rattle.cls_cover.proofs.Fronts.{small_start}
use Rattle.cls_cover.proofs.small.small_covers.Goals as goal

pub loop-count-init : goal.loop-count-init
loop-count-init c =
    let fs = c.args.families.now in
    let made = c.in_ok-small.ensures in
    small_start fs c.args.limit c.in_ok-small.small c.requires.positive (subst (λ (l : List ℕ). AreSetsOf fs l) (sym made.sets) c.requires.sets) made.seen made.list

pub loop-count-preserved : goal.loop-count-preserved
loop-count-preserved c = c.in_ok-grow_small.ensures.covers

pub in_order-requires-clause-differ : goal.in_order-requires-clause-differ
in_order-requires-clause-differ c = c.loop-count.invariant.found.covers.differ

pub in_order-requires-clause-apart : goal.in_order-requires-clause-apart
in_order-requires-clause-apart c = covers_apart c.args.families.now c.loop-count.count (map members c.loop-count.small.list.items) c.loop-count.invariant.found.covers

pub returns-clause-covers : goal.returns-clause-covers
returns-clause-covers c =
    let fs = c.args.families.now in
    to_covers fs c.in_ok-in_order.field-0
    (all_in_order fs c.loop-count.count (map members c.loop-count.small.list.items) c.in_ok-in_order.field-0 c.loop-count-test.false c.loop-count.invariant.found c.in_ok-in_order.ensures.rises c.in_ok-in_order.ensures.same)

pub returns-clause-within : goal.returns-clause-within
returns-clause-within c = λ j l m. c.loop-count.invariant.within.few j (omega arith) (from_more (take j c.args.families.now) c.args.limit m)
