use Rattle.std.proofs.Common.{Contains}
use Rattle.cls_engine.specs.declared.recents.Kept.{Kept as KeptSeen}
use Rattle.cls_engine.proofs.recents.Recents.make_room.Given as goal

abbrev pub invariant-loop-self : goal.invariant-loop-self
invariant-loop-self l = (k : KeptSeen) → Contains l.self.kept.items k → Contains l.initial.self.kept.items k

abbrev pub decreases-loop-self : goal.decreases-loop-self
decreases-loop-self l = l.self.kept.len
