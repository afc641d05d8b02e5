use Rattle.std.proofs.Common.{◌≡◌, ◌≤◌, ◌∙◌, length, get_or, sym, ap, arith, Some}
use Rattle.std.proofs.lemmas.Option.{get_or_from_slice_get, slice_get-get_or, slice_get_within}
use Rattle.cls_live.proofs.SlotLaws.{component_absent, component_found}
use Rattle.cls_live.proofs.slots.component_with.Goals as goal

pub returns-then-place-live : goal.returns-then-place-live
returns-then-place-live c =
    let live = c.args.live.now in
    let at = c.count_below-place.ensures in
    let past : length live ≤ c.count_below-place.result = c.if-place-live.true in
    sym (component_absent 0 live c.args.slot c.count_below-place.result c.requires.rising at.before at.here
    (λ first e same. let m = slice_get_within live c.count_below-place.result first e in omega arith))

pub returns-then-live-place : goal.returns-then-live-place
returns-then-live-place c =
    let live = c.args.live.now in
    let at = c.count_below-place.ensures in
    sym (component_absent 0 live c.args.slot c.count_below-place.result c.requires.rising at.before at.here
    (λ first e same. c.if-live-place.true (get_or_from_slice_get live c.count_below-place.result first 0 e ∙ sym same)))

pub returns : goal.returns
returns c =
    let live = c.args.live.now in
    let place = c.count_below-place.result in
    let is : get_or live place 0 ≡ c.args.slot = c.if-live-place.false in
    let within = c.if-place-live.false in
    sym (component_found 0 live place c.args.slot c.requires.rising (slice_get-get_or live place 0 within ∙ ap Some is))
