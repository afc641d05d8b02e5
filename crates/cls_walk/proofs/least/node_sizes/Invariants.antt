use Rattle.std.proofs.Common.{◌≡◌, take}
use Rattle.cls_term.specs.Costs.{cost_of}
use Rattle.cls_walk.specs.Sizes.{sizes_of}
use Rattle.cls_walk.proofs.least.node_sizes.Given as goal

abbrev pub invariant-loop-form : goal.invariant-loop-form
invariant-loop-form l = l.sizes.items ≡ sizes_of (cost_of l.costs) l.least (take l.form-index l.forms)
