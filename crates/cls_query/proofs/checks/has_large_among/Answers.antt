use Rattle.cls_syntax.specs.SpelledTypes.{types_text}
use Rattle.cls_query.proofs.BatchLines.{large_among}
use Rattle.cls_query.proofs.checks.has_large_among.Goals as goal

pub returns : goal.returns
returns c = large_among (types_text c.args.types.now) c.are_small.result c.are_small.ensures
