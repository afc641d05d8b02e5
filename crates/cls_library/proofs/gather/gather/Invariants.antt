use Rattle.cls_base.specs.Schemas.{schema_of}
use Rattle.cls_kind.specs.Kinds.{instances_of}
use Rattle.cls_path.specs.Paths.{listed}
use Rattle.cls_library.specs.Gathered.{ArePartlyGathered}
use Rattle.cls_library.proofs.gather.gather.Given as goal

abbrev pub invariant-loop-made : goal.invariant-loop-made
invariant-loop-made l = ArePartlyGathered l.fn.taxonomy l.fn.held (instances_of l.fn.kinds (schema_of l.fn.schema)) (listed l.paths.items) l.weight l.made-iterator
