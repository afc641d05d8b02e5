use Rattle.std.proofs.Common.{ap, ◌∙◌, arith}
use Rattle.cls_proof.specs.Drafts.{members_said}
use Rattle.cls_proof.proofs.DraftLists.{said_block}
use Rattle.cls_proof.proofs.draft.add_block.Goals as goal

pub returns : goal.returns
returns c = ap members_said c.in_ok-push_block.ensures ∙ said_block c.args.members.now c.args.component c.args.n (omega arith)
