use Rattle.cls_laws.proofs.Transcripts.{transcripts_go_on}
use Rattle.cls_laws.proofs.laws.transcripts_go_on.Goals as goal

pub returns : goal.returns
returns c = transcripts_go_on
