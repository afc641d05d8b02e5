use Rattle.std.proofs.Common.{sym}
use Rattle.cls_core.proofs.Insertion.{place-found}
use Rattle.cls_core.proofs.numbering.number_goal.Goals as goal

pub returns-in-Some-clause-number : goal.returns-in-Some-clause-number
returns-in-Some-clause-number g c = place-found (g.G.PartialEq.eq c.args.goal.now) c.args.rows.now.keys c.in-Some.row (sym c.in-Some.ensures.index)
