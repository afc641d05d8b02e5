use Rattle.cls_library.specs.Index.{HasEntriesBefore, spot_at}
use Rattle.cls_library.proofs.index.Index.put_place.Given as goal

abbrev pub invariant-loop-i : goal.invariant-loop-i
invariant-loop-i l = HasEntriesBefore l.fn.components (spot_at l.fn.place.component l.fn.place.count l.i) l.self
