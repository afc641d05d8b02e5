use Rattle.cls_base.specs.Limits.{max_type_nodes}
use Rattle.cls_syntax.specs.SpelledTypes.{type_text}
use Rattle.cls_syntax.specs.TypeTexts.{type_nodes}
use Rattle.cls_query.proofs.ChangeErrors.{over, nodes_said, addition_silent, duplicate_said}
use Rattle.cls_query.proofs.change_reader.check_addition.Goals as goal

pub returns-then-not-is_small-clause-tested : goal.returns-then-not-is_small-clause-tested
returns-then-not-is_small-clause-tested c line says =
    let t = type_text c.args.spelled.now in
    nodes_said line c.args.components.now c.args.component.now t says (over c.is_small.result (type_nodes t) max_type_nodes c.is_small.ensures c.if-not-is_small.true)

pub returns-in-Some-clause-tested : goal.returns-in-Some-clause-tested
returns-in-Some-clause-tested c line says =
    addition_silent line c.args.components.now c.args.component.now (type_text c.args.spelled.now) says (c.is_small.ensures.0 c.if-not-is_small.false) c.in-Some.ensures.0

pub returns-in-None-clause-tested : goal.returns-in-None-clause-tested
returns-in-None-clause-tested c line says =
    duplicate_said line c.args.components.now c.args.component.now (type_text c.args.spelled.now) says (c.is_small.ensures.0 c.if-not-is_small.false) c.in-None.ensures
