use Rattle.std.proofs.Common.{ℕ, List, subst}
use Rattle.std.specs.Prelude.{IfErr, IfOk, IfSome}
use Rattle.cls_base.specs.Firsts.{First}
use Rattle.cls_query.specs.declared.fault.LineFault.{LineFault}
use Rattle.cls_query.specs.ChangeErrors.{change_errors}
use Rattle.cls_query.specs.Queries.{tables_of}
use Rattle.cls_query.specs.ReadChanges.{ReadsChange, change_in}
use Rattle.cls_query.specs.ReadQueries.{fault_words}
use Rattle.cls_query.proofs.change_reader.read_change.Goals as goal

pub returns-clause-change : goal.returns-clause-change
returns-clause-change c =
    let components = c.args.components.now in
    subst (λ (l : List ℕ). IfOk c.by_rows.result (λ change. (filters : List (List ℕ))
    → ReadsChange (tables_of c.args.constructors.now c.args.variables.now components filters) l (change_in change) (tables_of c.by_rows.new.constructors c.by_rows.new.variables components filters)))
    c.in_ok-text.ensures.same c.by_rows.ensures.change

pub returns-clause-fault : goal.returns-clause-fault
returns-clause-fault c =
    subst (λ (l : List ℕ). IfErr c.by_rows.result (λ (fault : LineFault). IfSome (fault_words fault) (First (change_errors c.args.components.now l)))) c.in_ok-text.ensures.same c.by_rows.ensures.fault
