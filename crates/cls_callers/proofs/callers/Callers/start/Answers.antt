use Rattle.std.proofs.Common.{refl}
use Rattle.cls_callers.proofs.callers.Callers.start.Goals as goal

pub start-requires-clause-ready : goal.start-requires-clause-ready
start-requires-clause-ready g c = c.facts.ensures.all_ready

pub returns-clause-caller : goal.returns-clause-caller
returns-clause-caller g c = record { tag = _; known = c.in_ok-table.ensures.tag; means = refl; at_root = refl }
