use Rattle.cls_laws.proofs.OneTranscript.{transcripts_determined}
use Rattle.cls_laws.proofs.laws.transcripts_are_determined.Goals as goal

pub returns : goal.returns
returns c = transcripts_determined
