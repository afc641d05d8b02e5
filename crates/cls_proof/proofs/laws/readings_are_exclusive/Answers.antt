use Rattle.cls_proof.proofs.OneReading.{exclusive}
use Rattle.cls_proof.proofs.laws.readings_are_exclusive.Goals as goal

pub returns : goal.returns
returns c = exclusive
