use Rattle.std.proofs.lemmas.Result.{err_from_is_err_and}
use Rattle.cls_proof.proofs.statement_form.row_form.Goals as goal

pub returns-in_err-goal : goal.returns-in_err-goal
returns-in_err-goal c =
    let p = err_from_is_err_and c.from_residual.result c.from_residual.ensures.1 in
    rw (p.1, p.2, c.in_err-goal.ensures)

pub returns-in_err-rest : goal.returns-in_err-rest
returns-in_err-rest c =
    let p = err_from_is_err_and c.from_residual-in_err-rest.result c.from_residual-in_err-rest.ensures.1 in
    rw (p.1, p.2, c.in_ok-goal.ensures, c.in_err-rest.ensures)

pub returns-in_err-component : goal.returns-in_err-component
returns-in_err-component c =
    let p = err_from_is_err_and c.from_residual-in_err-component.result c.from_residual-in_err-component.ensures.1 in
    rw (p.1, p.2, c.in_ok-goal.ensures, c.in_ok-rest.ensures, c.in_err-component.ensures)

pub returns-in_err-n : goal.returns-in_err-n
returns-in_err-n c =
    let p = err_from_is_err_and c.from_residual-in_err-n.result c.from_residual-in_err-n.ensures.1 in
    rw (p.1, p.2, c.in_ok-goal.ensures, c.in_ok-rest.ensures, c.in_ok-component.ensures, c.in_err-n.ensures)

pub returns-in_err-rest-2 : goal.returns-in_err-rest-2
returns-in_err-rest-2 c =
    let p = err_from_is_err_and c.from_residual-in_err-rest-2.result c.from_residual-in_err-rest-2.ensures.1 in
    rw (p.1, p.2, c.in_ok-goal.ensures, c.in_ok-rest.ensures, c.in_ok-component.ensures, c.in_ok-n.ensures, c.in_err-rest-2.ensures)

pub returns-in_err-cover : goal.returns-in_err-cover
returns-in_err-cover c =
    let p = err_from_is_err_and c.from_residual-in_err-cover.result c.from_residual-in_err-cover.ensures.1 in
    rw (p.1, p.2, c.in_ok-goal.ensures, c.in_ok-rest.ensures, c.in_ok-component.ensures, c.in_ok-n.ensures, c.in_ok-rest-2.ensures, c.in_err-cover.ensures)

pub returns : goal.returns
returns c =
    rw (c.in_ok-goal.ensures, c.in_ok-rest.ensures, c.in_ok-component.ensures, c.in_ok-n.ensures, c.in_ok-rest-2.ensures, c.in_ok-cover.ensures)
