use Rattle.std.proofs.Common.{sym, ◌∙◌, arith}
use Rattle.cls_query.specs.Comparisons.{is_at_most}
use Rattle.cls_query.proofs.Searches.{place_inside}
use Rattle.cls_query.proofs.line.CutLine.sides.Goals as goal

pub split_at-requires : goal.split_at-requires
split_at-requires c =
    let found = place_inside (λ token. is_at_most token.kind) c.in_ok-rest.rest.now c.in_ok-first_sign.field-0 (sym c.first_sign.ensures ∙ c.in_ok-first_sign.was) in
    omega (arith, found)
