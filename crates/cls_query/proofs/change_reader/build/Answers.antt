use Rattle.std.proofs.Common.{sym, ap, ◌∙◌}
use Rattle.cls_syntax.specs.SpelledTypes.{type_text}
use Rattle.cls_query.specs.Changes.{change_parts}
use Rattle.cls_query.specs.Queries.{with_names, with_variables}
use Rattle.cls_query.specs.ReadChanges.{SpelledChange, change_text}
use Rattle.cls_query.proofs.ChangeTables.{addition_constructors, addition_variables}
use Rattle.cls_query.proofs.change_reader.build.Goals as goal

pub returns-in_ok-schema-in-Add-clause-constructors : goal.returns-in_ok-schema-in-Add-clause-constructors
returns-in_ok-schema-in-Add-clause-constructors c =
    let old = c.args.constructors.now in
    c.in_ok-schema-in-Add.ensures.constructors
    ∙ (addition_constructors old c.in-Add.component.now (type_text c.in-Add.spelled)
    ∙ sym (ap (λ (s : SpelledChange). with_names old (change_parts (change_text s))) c.in-Add.is))

pub returns-in_ok-schema-in-Add-clause-variables : goal.returns-in_ok-schema-in-Add-clause-variables
returns-in_ok-schema-in-Add-clause-variables c =
    let old = c.args.variables.now in
    c.in_ok-schema-in-Add.ensures.variables
    ∙ (addition_variables old c.in-Add.component.now (type_text c.in-Add.spelled)
    ∙ sym (ap (λ (s : SpelledChange). with_variables old (change_parts (change_text s))) c.in-Add.is))
