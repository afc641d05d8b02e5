use Rattle.cls_proof.proofs.DraftLists.{unfinished}
use Rattle.cls_proof.proofs.draft.Draft.finish.Goals as goal

pub returns : goal.returns
returns c = unfinished c.args.self c.in_default.not-Whole
