use Rattle.std.proofs.Common.{sym, subst}
use Rattle.cls_syntax.specs.SpelledTypes.{type_text}
use Rattle.cls_proof.specs.declared.statement.Statement.TheVariants as code
use Rattle.cls_proof.specs.declared.statement_form.StatementForm.{StatementForm}
use Rattle.cls_proof.specs.Forms as as_written
use Rattle.cls_proof.specs.Said.{written, written_row, written_block}
use Rattle.cls_proof.proofs.StatementReadings.{IsRead, mapped, block_read, member_read}
use Rattle.cls_proof.proofs.reading.statement.Goals as goal

pub returns-in_ok-row-in-Row-clause-meant : goal.returns-in_ok-row-in-Row-clause-meant
returns-in_ok-row-in-Row-clause-meant c =
    let components = c.args.components.now in
    let old = c.args.names.now in
    let new = c.row.new.names in
    subst (λ (form : StatementForm). IsRead components old new (written form) c.map.result) (sym c.in-Row.is)
    (mapped components old new (written_row c.in-Row.form) (λ x. code.Row x) _ (λ x s h. h) c.in_ok-row-in-Row.field-0 c.map.result c.map.ensures.cases c.in_ok-row-in-Row.ensures.meant)

pub returns-in_ok-goal-in-Member-clause-meant : goal.returns-in_ok-goal-in-Member-clause-meant
returns-in_ok-goal-in-Member-clause-meant c =
    let components = c.args.components.now in
    let old = c.args.names.now in
    let new = c.goal.new.names in
    let t = type_text c.in-Member.text in
    let e = c.in_ok-goal-in-Member.ensures in
    subst (λ (form : StatementForm). IsRead components old new (written form) c.map-in-Member.result) (sym c.in-Member.is)
    (mapped components old new (as_written.member t) (λ x. code.Member x) _ (λ x s h. h) c.in_ok-goal-in-Member.field-0 c.map-in-Member.result c.map-in-Member.ensures.cases
    (member_read components old new t c.in_ok-goal-in-Member.field-0 e.spelled e.numbered e.held))

pub returns-in-Block-clause-meant : goal.returns-in-Block-clause-meant
returns-in-Block-clause-meant c =
    let components = c.args.components.now in
    let table = c.args.names.now in
    subst (λ (form : StatementForm). IsRead components table table (written form) c.block.result) (sym c.in-Block.is)
    (block_read components table (written_block c.in-Block.form) c.block.result c.block.ensures)
