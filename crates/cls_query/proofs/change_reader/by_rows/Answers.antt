use Rattle.std.proofs.Common.{[], sym, subst, rules}
use Rattle.cls_query.specs.Queries.{tables_of}
use Rattle.cls_query.specs.ReadChanges.{MayChange, change_text}
use Rattle.cls_query.specs.ReadQueries.{fault_words}
use Rattle.cls_query.proofs.ChangeErrors.{by_spelling, by_names, all_silent}
use Rattle.cls_query.proofs.ChangeTables.{change_reads, may_change}
use Rattle.cls_query.proofs.LineSteps.{text_silent}
use Rattle.cls_query.proofs.change_reader.by_rows.Goals as goal

pub returns-in_err-spelled-clause-fault : goal.returns-in_err-spelled-clause-fault
returns-in_err-spelled-clause-fault c =
    let line = c.args.line.now.text.now in
    let failed = by_spelling c.args.components.now line (text_silent line c.requires) (fault_words c.in_err-spelled.field-0.0) c.in_err-spelled.ensures.tested in
    search (rules, failed)

pub returns-in_err-check-clause-fault : goal.returns-in_err-check-clause-fault
returns-in_err-check-clause-fault c =
    let line = c.args.line.now.text.now in
    let failed = by_names c.args.components.now line (text_silent line c.requires) c.in_ok-spelled.ensures.tested (fault_words c.in_err-check.field-0.0) (c.in_err-check.ensures.tested line c.in_ok-spelled.ensures.says) in
    search (rules, failed)

pub returns-clause-change : goal.returns-clause-change
returns-clause-change c filters =
    let components = c.args.components.now in
    let line = c.args.line.now.text.now in
    let said = change_text c.in_ok-spelled.spelled in
    change_reads (tables_of c.args.constructors.now c.args.variables.now components filters) _ _ line said _
    (all_silent components line (text_silent line c.requires) c.in_ok-spelled.ensures.tested (c.in_ok-check.ensures.tested line c.in_ok-spelled.ensures.says))
    c.in_ok-spelled.ensures.says (c.in_ok-build.ensures.change filters) c.in_ok-build.ensures.constructors c.in_ok-build.ensures.variables

pub returns-clause-may : goal.returns-clause-may
returns-clause-may c =
    let components = c.args.components.now in
    subst (MayChange components) (sym (c.in_ok-build.ensures.change []))
    (may_change (tables_of c.build.new.constructors c.build.new.variables components []) (change_text c.in_ok-spelled.spelled) c.in_ok-check.ensures.named)
