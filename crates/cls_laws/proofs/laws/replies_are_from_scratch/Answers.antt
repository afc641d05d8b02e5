use Rattle.cls_laws.proofs.Live.{from_scratch}
use Rattle.cls_laws.proofs.laws.replies_are_from_scratch.Goals as goal

pub returns : goal.returns
returns c = from_scratch
