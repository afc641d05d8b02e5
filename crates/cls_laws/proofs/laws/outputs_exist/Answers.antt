use Rattle.cls_laws.proofs.Transcripts.{outputs_exist}
use Rattle.cls_laws.proofs.laws.outputs_exist.Goals as goal

pub returns : goal.returns
returns c = outputs_exist
