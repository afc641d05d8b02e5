use Rattle.std.proofs.Common.{map, take}
use Rattle.std.specs.List.{AllZip}
use Rattle.cls_base.specs.Ty.{type_of}
use Rattle.cls_engine.specs.Batching.{IsFitGoalOf}
use Rattle.cls_engine.proofs.engine.Engine.goals_of.Given as goal

abbrev pub invariant-loop-ty : goal.invariant-loop-ty
invariant-loop-ty l = AllZip (IsFitGoalOf l.self.library) (map type_of (take l.ty-index l.types)) l.goals.items
