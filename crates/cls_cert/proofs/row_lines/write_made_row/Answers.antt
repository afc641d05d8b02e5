use Rattle.std.proofs.Common.{◌≡◌, ◌∙◌, ◌++◌, ap, sym, string_bytes}
use Rattle.std.proofs.lemmas.Result.{on_ok_weaker}
use Rattle.cls_base.specs.Ty.{type_of}
use Rattle.cls_path.specs.Paths.{listed, type_of_paths}
use Rattle.cls_proof.specs.Certificates.{ProofRow}
use Rattle.cls_proof.specs.Texts.{row_text}
use Rattle.cls_cert.specs.Conditions.{forms_of}
use Rattle.cls_cert.specs.Making.{goal_in}
use Rattle.cls_cert.proofs.Ruled.{told_form}
use Rattle.cls_cert.proofs.row_lines.write_made_row.Goals as goal

pub goal-requires : goal.goal-requires
goal-requires c = c.requires

pub returns : goal.returns
returns c =
    let row = c.args.row.now in
    let goals = forms_of c.args.named.now.grammar.now in
    let form : goal_in goals row.number ≡ listed c.goal.result.now = told_form c.args.named.now.grammar.now row.number c.goal.result.now c.goal.ensures in
    let type : type_of c.in_ok-ty.ty ≡ type_of_paths (goal_in goals row.number) = c.in_ok-ty.ensures ∙ ap type_of_paths (sym form) in
    on_ok_weaker c.write_row.result (λ e. e ∙ ap (λ (r : ProofRow). string_bytes c.args.text.now ++ row_text c.args.named.now.names.now c.args.named.now.components.now r) (λ i. record { goal = type i; component = row.component; n = row.n; cover = c.as_slice.ensures i })) c.write_row.ensures
