use Rattle.std.proofs.Common.{take}
use Rattle.cls_term.specs.Costs.{cost_of}
use Rattle.cls_walk.specs.Least.{IsLeastOf}
use Rattle.cls_walk.proofs.least.node_size.Given as goal

abbrev pub invariant-loop-form : goal.invariant-loop-form
invariant-loop-form l = IsLeastOf (cost_of l.costs) l.least l.most (take l.form-index l.forms) l.best
