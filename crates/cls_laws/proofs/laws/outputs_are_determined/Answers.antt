use Rattle.cls_laws.proofs.OneOutput.{outputs_determined}
use Rattle.cls_laws.proofs.laws.outputs_are_determined.Goals as goal

pub returns : goal.returns
returns c = outputs_determined
