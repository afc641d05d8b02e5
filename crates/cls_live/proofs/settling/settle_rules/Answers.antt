use Rattle.std.proofs.Common.{[], ◌∷◌, ◌++◌, sym, ◌∙◌}
use Rattle.std.proofs.lemmas.List.{map_more}
use Rattle.std.proofs.lemmas.Option.{get_or_from_slice_get, slice_get_within}
use Rattle.cls_base.specs.Columns.{rule_of}
use Rattle.cls_live.specs.Slots.{settled}
use Rattle.cls_live.proofs.settling.settle_rules.Goals as goal

pub loop-place-preserved : goal.loop-place-preserved
loop-place-preserved c =
    let rs = c.args.rules.now in
    let i = c.loop-place.place in
    let q = rule_of c.get.result in
    let f = settled c.args.live.now c.args.numbers.now in
    let next = map_more f rs i q (slice_get_within rs i q c.get.ensures) in
    let same = sym (get_or_from_slice_get rs i q q c.get.ensures) in
    c.in_ok-settle_rule.ensures ∙ ((λ j. c.loop-place.invariant j ++ f (same j) ∷ []) ∙ sym next)
