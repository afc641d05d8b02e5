use Rattle.std.proofs.Common.{◌≡◌, ℕ, List, ◌++◌, ◌∷◌, [], ap, ◌∙◌}
use Rattle.cls_base.specs.declared.ty.Ty.{Ty}
use Rattle.cls_proof.specs.declared.row.RowPlace.{RowPlace}
use Rattle.cls_proof.specs.Certificates.{ProofRow}
use Rattle.cls_proof.specs.Columns.{rows_of}
use Rattle.cls_proof.specs.Rows.{row_of}
use Rattle.cls_proof.proofs.Columns.{rows-push}
use Rattle.cls_proof.proofs.row.ProofRows.push.Goals as goal

pub returns : goal.returns
returns c =
    let i = c.self.inside in
    let r = c.args.row in
    let place : RowPlace = record { component = r.component; n = r.n } in
    let goals : c.push-2.new.self.items ≡ i.goals.items ++ r.goal ∷ [] = c.in_ok-push-2.ensures.items ∙ ap (λ (gs : List Ty). gs ++ r.goal ∷ []) c.in_ok-reserve.ensures.items in
    let places : c.push-3.new.self.items ≡ i.places.items ++ place ∷ [] = c.in_ok-push-3.ensures.items ∙ ap (λ (ps : List RowPlace). ps ++ place ∷ []) c.in_ok-reserve-2.ensures.items in
    let covers : c.push.new.self ≡ i.covers ++ r.cover ∷ [] = c.in_ok-push.ensures.ok ∙ ap (λ (cover : List ℕ). i.covers ++ cover ∷ []) c.as_slice.ensures in
    (λ j. rows_of (goals j) (places j) (covers j))
    ∙ (rows-push i.goals.items i.places.items i.covers r.goal place r.cover c.self.invariant ∙ ap (λ (rows : List ProofRow). rows ++ row_of r ∷ []) c.self.view_is)
