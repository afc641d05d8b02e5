use Rattle.cls_expand.proofs.Languages.{languages_are_types}
use Rattle.cls_expand.proofs.laws.languages_are_types.Goals as goal

pub returns : goal.returns
returns c = languages_are_types
