use Rattle.std.proofs.Common.{[], ◌∷◌, ◌++◌, sym, ◌∙◌}
use Rattle.std.proofs.lemmas.List.{map_more}
use Rattle.std.proofs.lemmas.Option.{get_or_from_slice_get, slice_get_within}
use Rattle.cls_base.specs.Arguments.{map_rule}
use Rattle.cls_base.specs.Columns.{rule_of}
use Rattle.cls_callers.proofs.naming.name_rules.Goals as goal

pub loop-place-preserved : goal.loop-place-preserved
loop-place-preserved g c =
    let rs = c.args.rules.now in
    let i = c.loop-place.place in
    let q = rule_of c.get.result in
    let f = g.N.Names.named c.args.names.now in
    let next = map_more (map_rule f) rs i q (slice_get_within rs i q c.get.ensures) in
    let same = sym (get_or_from_slice_get rs i q q c.get.ensures) in
    c.in_ok-name_rule.ensures ∙ ((λ j. c.loop-place.invariant j ++ map_rule f (same j) ∷ []) ∙ sym next)
