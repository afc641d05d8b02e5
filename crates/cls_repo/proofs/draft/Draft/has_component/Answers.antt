use Rattle.cls_repo.proofs.Findings.{has_text}
use Rattle.cls_repo.proofs.draft.Draft.has_component.Goals as goal

pub returns : goal.returns
returns c = has_text c.args.self.now.component_names c.args.component.now c.find.result c.is_some.result c.is_some.ensures c.find.ensures.stands c.find.ensures.absent
