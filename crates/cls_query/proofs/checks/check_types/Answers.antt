use Rattle.std.proofs.Common.{ℕ, ◌++◌, sym, ap, ◌∙◌, subst}
use Rattle.std.specs.Prelude.{position, codes}
use Rattle.std.specs.Fmt.{decimal}
use Rattle.cls_base.specs.Firsts.{First}
use Rattle.cls_syntax.specs.TypeSchemas.{is_dollar}
use Rattle.cls_syntax.proofs.Dollars.{no_dollar}
use Rattle.cls_lexer.specs.Words.{words_of}
use Rattle.cls_query.specs.FormAnswers.{query_text}
use Rattle.cls_query.specs.Steps.{type_errors}
use Rattle.cls_query.proofs.LineSteps.{variable_said, types_silent}
use Rattle.cls_query.proofs.checks.check_types.Goals as goal

pub returns-in-Some-clause-tested : goal.returns-in-Some-clause-tested
returns-in-Some-clause-tested c =
    let line = c.args.line.now.text.now in
    let few = sym c.has_large_type.ensures ∙ c.if-has_large_type.false in
    let first = sym (ap (position is_dollar) c.args.line.now.spoken) ∙ (sym c.first_variable.ensures ∙ c.in-Some.is) in
    subst (λ (b : ℕ). First (type_errors line) (codes "variable " ++ decimal b)) (sym c.byte.ensures)
    (variable_said line (query_text c.args.query.now) c.requires few _ first)

pub returns-in-None-clause-tested : goal.returns-in-None-clause-tested
returns-in-None-clause-tested c =
    let line = c.args.line.now.text.now in
    let few = sym c.has_large_type.ensures ∙ c.if-has_large_type.false in
    let none = sym (ap (position is_dollar) c.args.line.now.spoken) ∙ (sym c.first_variable.ensures ∙ c.in-None.is) in
    types_silent line (query_text c.args.query.now) c.requires few none

pub returns-in-None-clause-closed : goal.returns-in-None-clause-closed
returns-in-None-clause-closed c =
    let none = sym (ap (position is_dollar) c.args.line.now.spoken) ∙ (sym c.first_variable.ensures ∙ c.in-None.is) in
    no_dollar (words_of c.args.line.now.text.now) none
