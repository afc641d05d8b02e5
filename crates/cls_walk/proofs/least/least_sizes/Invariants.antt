use Rattle.std.proofs.Common.{length}
use Rattle.cls_term.specs.Costs.{cost_of}
use Rattle.cls_walk.specs.Filled.{AreLeast}
use Rattle.cls_walk.specs.Least.{AreWithin}
use Rattle.cls_walk.proofs.least.least_sizes.Given as goal

abbrev pub invariant-loop-round : goal.invariant-loop-round
invariant-loop-round l = record { within : AreWithin (length l.forms) l.most l.least; sizes : AreLeast l.forms (cost_of l.costs) l.least }
