use Rattle.cls_callers.specs.Known.{known_answer}
use Rattle.cls_callers.proofs.Picked.{IsPicking}
use Rattle.cls_callers.proofs.picking.pick.Given as goal

abbrev pub invariant-loop-row : goal.invariant-loop-row
invariant-loop-row g l =
    IsPicking g.G.PartialEq.eq (known_answer g.G.PartialEq.eq l.known) l.start l.row l.core
