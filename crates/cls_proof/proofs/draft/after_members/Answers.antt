use Rattle.cls_proof.proofs.DraftLists.{no_rest}
use Rattle.cls_proof.proofs.draft.after_members.Goals as goal

pub returns-in_default : goal.returns-in_default
returns-in_default c = no_rest c.args.members c.args.statement c.in_default.not-Member c.in_default.not-Block c.in_default.not-Layer c.in_default.not-Set c.in_default.not-Qed
