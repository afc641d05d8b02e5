use Rattle.std.proofs.Common.{ap, ◌∙◌, take}
use Rattle.cls_syntax.specs.SpelledTypes.{types_text}
use Rattle.cls_query.proofs.BatchLines.{spelled_all}
use Rattle.cls_query.proofs.build.all_types.Goals as goal

pub returns-in-Ok-clause-types : goal.returns-in-Ok-clause-types
returns-in-Ok-clause-types c = spelled_all c.types.new.names (types_text c.args.spelled.now) _ c.in-Ok.ensures.types

pub returns-in-Err-clause-stay : goal.returns-in-Err-clause-stay
returns-in-Err-clause-stay c = c.cut.ensures.kept ∙ (ap (λ n. take n c.types.new.names) c.len-before.ensures.count ∙ c.types.ensures.kept)
