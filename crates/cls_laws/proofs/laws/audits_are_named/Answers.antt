use Rattle.cls_laws.proofs.AuditLines.{audits_named}
use Rattle.cls_laws.proofs.laws.audits_are_named.Goals as goal

pub returns : goal.returns
returns c = audits_named
