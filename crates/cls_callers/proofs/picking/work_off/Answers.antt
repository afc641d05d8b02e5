use Rattle.std.proofs.Common.{◌≡◌, ◌<◌, ◌≤◌, ◌∙◌, ◌++◌, ◌∷◌, [], Some, List, length, slice_get, sym, ap, subst, arith}
use Rattle.std.proofs.lemmas.Option.{slice_get_within}
use Rattle.cls_core.specs.declared.entry.Entry.{Entry}
use Rattle.cls_core.specs.declared.entry.Entry.TheVariants.{File}
use Rattle.cls_core.specs.declared.state.RowState.TheVariants.{Free, Held}
use Rattle.cls_core.specs.Machine.{filed}
use Rattle.cls_core.specs.Rows.{Machine}
use Rattle.cls_core.proofs.Columns.{get-set-same, some-inside}
use Rattle.cls_callers.specs.Known.{known_answer}
use Rattle.cls_callers.proofs.picking.work_off.Goals as goal

pub claim-requires : goal.claim-requires
claim-requires g c = c.requires (omega arith)

pub goal-requires : goal.goal-requires
goal-requires g c =
    subst (λ (r : Machine g.row.G.Denot). c.args.row < length r.goals) (sym c.in_ok-claim.ensures.rows) (omega arith)

pub file-requires-clause-held : goal.file-requires-clause-held
file-requires-clause-held g c =
    let old = c.args.core.now.rows in
    let free = c.requires (omega arith) in
    subst (λ (r : Machine g.row.G.Denot). slice_get r.states c.args.row ≡ Some (Held 0)) (sym c.in_ok-claim.ensures.rows)
    (get-set-same old.states c.args.row (Held 0) (slice_get_within old.states c.args.row Free free))

pub file-requires-clause-few : goal.file-requires-clause-few
file-requires-clause-few g c =
    subst (λ (r : Machine g.row.G.Denot). length r.goals ≤ 4294967295) (sym c.in_ok-claim.ensures.rows) (omega arith)

pub returns-in-Ok-Kept-clause-done : goal.returns-in-Ok-Kept-clause-done
returns-in-Ok-Kept-clause-done g c x at =
    let old = c.args.core.now in
    let eq = g.G.PartialEq.eq in
    let claim = c.in_ok-claim.ensures in
    let same : c.goal.result.now ≡ x = some-inside c.goal.result.now x (sym c.goal.ensures ∙ (ap (λ (r : Machine g.row.G.Denot). slice_get r.goals c.args.row) claim.rows ∙ at)) in
    let rows = rw c.in-Ok-Kept.field-0-is at c.in-Ok-Kept.ensures.rows in
    let history = rw c.in-Ok-Kept.field-0-is at c.in-Ok-Kept.ensures.history in
    let answer = c.in_ok-answer.ensures ∙ ap (known_answer eq c.args.known.now) same in
    record {
      rows = rows ∙ (λ i. filed eq (claim.rows i) c.args.row (answer i));
      history = history ∙ ap (λ (es : List Entry). es ++ File 0 c.args.row ∷ []) claim.history;
    }
