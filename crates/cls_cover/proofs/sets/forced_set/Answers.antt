use Rattle.std.proofs.Common.{take, length, get_or, sym, ◌≡◌, ◌∙◌, ◌<◌, arith}
use Rattle.std.proofs.lemmas.List.{take_more}
use Rattle.cls_cover.specs.Sets.{members}
use Rattle.cls_cover.proofs.Lists.{get_any}
use Rattle.cls_cover.proofs.SingleFamilies.{forced_none, forced_more, only_one}
use Rattle.cls_cover.proofs.SetBits.{members_none, members_rise, members_more}
use Rattle.cls_cover.proofs.sets.forced_set.Goals as goal

pub loop-family-init : goal.loop-family-init
loop-family-init c = forced_none _ members_none

pub loop-family-preserved : goal.loop-family-preserved
loop-family-preserved c =
    let fs = c.args.families.now in
    let i = c.loop-family.family-index in
    let f = c.family-item.result in
    let xs = c.as_slice.result.now in
    let x = get_or xs 0 0 in
    let one : length xs ≡ 1 = omega arith in
    let here : 0 < length xs = omega arith in
    rw (take_more fs i f c.loop-family-test.true, ← c.family-item.is)
    (forced_more (take i fs) (members c.loop-family.set) _ x f c.loop-family.invariant
    (sym c.as_slice.ensures ∙ only_one xs x one (get_any xs 0 0 x here))
    (members_rise _) (members_more c.loop-family.set c.alone-set.result x c.alone-set.ensures))
