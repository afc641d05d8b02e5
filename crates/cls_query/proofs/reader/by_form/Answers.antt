use Rattle.std.proofs.Common.{List, [], ℕ, sym, ap, ◌∙◌, subst, rules}
use Rattle.cls_lexer.specs.Words.{Word}
use Rattle.cls_syntax.specs.ClosedTypes.{HasNoDollar}
use Rattle.cls_query.specs.FormAnswers.{query_text}
use Rattle.cls_query.specs.Queries.{tables_of, query_of}
use Rattle.cls_query.specs.ReadQueries.{fault_words}
use Rattle.cls_query.proofs.ClosedTypes.{closed_query}
use Rattle.cls_query.proofs.LineSteps.{text_silent, by_spelling, by_types, by_values, all_silent}
use Rattle.cls_query.proofs.Variables.{reads_by}
use Rattle.cls_query.proofs.reader.by_form.Goals as goal

pub returns-in_err-spelled-clause-fault : goal.returns-in_err-spelled-clause-fault
returns-in_err-spelled-clause-fault c =
    let tables = tables_of c.args.constructors.now [] c.args.components.now c.args.filters.now in
    let line = c.args.line.now.text.now in
    let failed = by_spelling tables line (text_silent line c.requires) (fault_words c.in_err-spelled.field-0.0) c.in_err-spelled.ensures.tested in
    search (rules, failed)

pub returns-in_err-check_types-clause-fault : goal.returns-in_err-check_types-clause-fault
returns-in_err-check_types-clause-fault c =
    let tables = tables_of c.args.constructors.now [] c.args.components.now c.args.filters.now in
    let line = c.args.line.now.text.now in
    let failed = by_types tables line (text_silent line c.requires) c.in_ok-spelled.ensures.tested (fault_words c.in_err-check_types.field-0.0) c.in_err-check_types.ensures.tested in
    search (rules, failed)

pub returns-in_err-term-clause-fault : goal.returns-in_err-term-clause-fault
returns-in_err-term-clause-fault c =
    let tables = tables_of c.args.constructors.now [] c.args.components.now c.args.filters.now in
    let line = c.args.line.now.text.now in
    let failed = by_values tables line (text_silent line c.requires) c.in_ok-spelled.ensures.tested c.in_ok-check_types.ensures.tested (fault_words c.in_err-term.field-0.0) c.in_err-term.ensures.tested in
    search (rules, failed)

pub build-requires-clause-closed : goal.build-requires-clause-closed
build-requires-clause-closed c =
    closed_query (query_text c.in_ok-spelled.spelled)
    (subst (λ (ws : List Word). HasNoDollar ws) (sym c.in_ok-spelled.ensures.says.spelled) c.in_ok-check_types.ensures.closed)

pub returns-clause-query : goal.returns-clause-query
returns-clause-query c variables =
    let old = c.args.constructors.now in
    let components = c.args.components.now in
    let filters = c.args.filters.now in
    let tables = tables_of old variables components filters in
    let line = c.args.line.now.text.now in
    let said = query_text c.in_ok-spelled.spelled in
    reads_by old variables components filters _ line _ said
    (all_silent tables line (text_silent line c.requires) c.in_ok-spelled.ensures.tested c.in_ok-check_types.ensures.tested c.in_ok-term.ensures.tested)
    c.in_ok-spelled.ensures.says
    (c.in_ok-build.ensures.query ∙ ap (λ (names : List (List ℕ)). query_of (tables_of names [] components filters) said) c.in_ok-build.ensures.constructors)
    c.in_ok-build.ensures.constructors
