use Rattle.std.proofs.Common.{◌≡◌, ◌<◌, ◌≤◌, ◌+◌, ◌^◌, ◌∙◌, [], Some, length, slice_get, refl, sym, ap, subst, arith}
use Rattle.std.proofs.lemmas.List.Sums.{sum_by-cons}
use Rattle.cls_core.specs.declared.state.RowState.TheVariants.{Free, Held}
use Rattle.cls_core.specs.Arguments.{rule_count}
use Rattle.cls_core.specs.Machine.{begun, claimed, filed, rules_in, rules_weight}
use Rattle.cls_core.specs.Rows.{Machine}
use Rattle.cls_callers.proofs.wrapping.file_alone.Goals as goal

pub claim-requires : goal.claim-requires
claim-requires g c =
    subst (λ (r : Machine g.row.G.Denot). slice_get r.states 0 ≡ Some Free) (sym c.in_ok-core.ensures.rows) refl

pub file-requires-clause-held : goal.file-requires-clause-held
file-requires-clause-held g c =
    let before = c.in_ok-claim.ensures.rows ∙ ap (λ (r : Machine g.row.G.Denot). claimed r 0 0) c.in_ok-core.ensures.rows in
    subst (λ (r : Machine g.row.G.Denot). slice_get r.states 0 ≡ Some (Held 0)) (sym before) refl

pub file-requires-clause-few : goal.file-requires-clause-few
file-requires-clause-few g c =
    let before = c.in_ok-claim.ensures.rows ∙ ap (λ (r : Machine g.row.G.Denot). claimed r 0 0) c.in_ok-core.ensures.rows in
    subst (λ (r : Machine g.row.G.Denot). length r.goals ≤ 4294967295) (sym before) (omega arith)

pub file-requires-clause-rules : goal.file-requires-clause-rules
file-requires-clause-rules g c =
    let before = c.in_ok-claim.ensures.rows ∙ ap (λ (r : Machine g.row.G.Denot). claimed r 0 0) c.in_ok-core.ensures.rows in
    subst (λ (r : Machine g.row.G.Denot). rules_in r.states + rule_count c.args.answer < 2 ^ 64) (sym before)
    (omega (arith, sum_by-cons rules_weight (Held 0) [], c.rule_count.ensures))

pub returns-in-Ok-Kept : goal.returns-in-Ok-Kept
returns-in-Ok-Kept g c =
    let rows = rw c.in-Ok-Kept.field-0-is at c.in-Ok-Kept.ensures.rows in
    let before = c.in_ok-claim.ensures.rows
    ∙ (ap (λ (r : Machine g.row.G.Denot). claimed r 0 0) c.in_ok-core.ensures.rows
    ∙ ap (λ (x : g.row.G.Denot). claimed (begun x) 0 0) c.in_ok-copy.ensures.same) in
    rows ∙ ap (λ (r : Machine g.row.G.Denot). filed g.G.PartialEq.eq r 0 c.args.answer) before
