use Rattle.cls_repo.proofs.Findings.{has_text}
use Rattle.cls_repo.proofs.draft.Draft.has_filter.Goals as goal

pub returns : goal.returns
returns c = has_text c.args.self.now.filter_names c.args.filter.now c.find.result c.is_some.result c.is_some.ensures c.find.ensures.stands c.find.ensures.absent
