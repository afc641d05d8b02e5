use Rattle.cls_proof.proofs.OneReading.{one_first_bad}
use Rattle.cls_proof.proofs.laws.one_line_is_the_first_bad.Goals as goal

pub returns : goal.returns
returns c = one_first_bad
