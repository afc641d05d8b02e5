use Rattle.cls_live.specs.Updates.{AreUpdates}
use Rattle.cls_live.proofs.updates.parts_of.Given as goal

abbrev pub invariant-loop-row : goal.invariant-loop-row
invariant-loop-row l = AreUpdates l.live l.next l.known l.rows l.numbers l.row l.parts.items
