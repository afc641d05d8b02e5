use Rattle.cls_library.specs.Index.{HasEntriesBefore, spot_at}
use Rattle.cls_library.proofs.index.Index.put_component.Given as goal

abbrev pub invariant-loop-count : goal.invariant-loop-count
invariant-loop-count l = HasEntriesBefore l.components (spot_at l.x l.count 0) l.self
