use Rattle.cls_library.specs.Index.{HasEntriesBefore, spot_at}
use Rattle.cls_library.proofs.index.Index.new.Given as goal

abbrev pub invariant-loop-x : goal.invariant-loop-x
invariant-loop-x l = HasEntriesBefore l.components (spot_at l.x 0 0) l.index
