use Rattle.cls_proof.proofs.DraftLists.{no_set}
use Rattle.cls_proof.proofs.draft.add_set.Goals as goal

pub returns-then-not-has_layer : goal.returns-then-not-has_layer
returns-then-not-has_layer c = no_set c.args.members.now c.args.positions.now (λ h. let t = c.has_layer.ensures.1 h in let f = c.if-not-has_layer.true in cc)
