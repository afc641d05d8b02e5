use Rattle.std.proofs.Common.{rules}
use Rattle.cls_library.proofs.lead.entries_of.Goals as goal

pub returns-in-Some : goal.returns-in-Some
returns-in-Some c = (search rules, rw c.find.ensures (c.in-Some.ensures c.args.sought.ending))
