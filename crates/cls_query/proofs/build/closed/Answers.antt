use Rattle.cls_syntax.specs.SpelledTypes.{type_text}
use Rattle.cls_query.proofs.Numbering.{spelled_is}
use Rattle.cls_query.proofs.build.closed.Goals as goal

pub returns-clause-ty : goal.returns-clause-ty
returns-clause-ty c = spelled_is _ (type_text c.args.spelled.now) _ c.in_ok-ty.ensures.ty
