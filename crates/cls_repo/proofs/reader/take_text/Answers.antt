use Rattle.std.proofs.Common.{sym, subst}
use Rattle.std.proofs.lemmas.Result.{err_from_is_err_and}
use Rattle.cls_repo.specs.Written.{draft_of, directive_of, TakesLine}
use Rattle.cls_repo.proofs.Taking.{spelling_refused, wrong_refused, line_taken}
use Rattle.cls_repo.proofs.reader.take_text.Goals as goal

pub returns-in_err-said-clause-fault : goal.returns-in_err-said-clause-fault
returns-in_err-said-clause-fault c =
    let p = err_from_is_err_and c.from_residual.result c.from_residual.ensures.1 in
    rw (p.1, p.2) (spelling_refused (draft_of c.args.draft.now) c.args.line.now.text.now c.requires.text c.requires.unskipped c.in_err-said.field-0.0 c.in_err-said.ensures.fault)

pub returns-in_err-declare-clause-fault : goal.returns-in_err-declare-clause-fault
returns-in_err-declare-clause-fault c =
    let p = err_from_is_err_and c.from_residual-in_err-declare.result c.from_residual-in_err-declare.ensures.1 in
    rw (p.1, p.2)
    (wrong_refused (draft_of c.args.draft.now) c.args.line.now.text.now c.requires.text c.requires.unskipped (directive_of c.in_ok-said.said) c.in_ok-said.ensures.says c.in_ok-said.ensures.silent c.in_err-declare.field-0.0 c.in_err-declare.ensures.fault)

pub returns-clause-taken : goal.returns-clause-taken
returns-clause-taken c =
    subst (λ b. TakesLine (draft_of c.args.draft.now) c.args.line.now.number c.args.line.now.text.now (draft_of c.declare.new.draft) b) (sym c.is_end.ensures)
    (line_taken (draft_of c.args.draft.now) c.args.line.now.text.now c.requires.text c.requires.unskipped (directive_of c.in_ok-said.said) c.in_ok-said.ensures.says c.in_ok-said.ensures.silent c.args.line.now.number (draft_of c.declare.new.draft) c.in_ok-declare.ensures.taken)
