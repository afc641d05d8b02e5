use Rattle.cls_finite.proofs.Walking.{long-large}
use Rattle.cls_finite.proofs.laws.long_terms_are_large.Goals as goal

pub returns : goal.returns
returns c = λ book cost i costs long. long-large book cost costs i long
