use Rattle.cls_laws.proofs.Answering.{lines_have_replies}
use Rattle.cls_laws.proofs.laws.lines_have_replies.Goals as goal

pub returns : goal.returns
returns c = lines_have_replies
