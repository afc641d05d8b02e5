use Rattle.std.proofs.Common.{take}
use Rattle.cls_term.specs.Costs.{cost_of}
use Rattle.cls_walk.specs.Sizes.{HasSizes}
use Rattle.cls_walk.proofs.least.form_sizes.Given as goal

abbrev pub invariant-loop-forms_of_node : goal.invariant-loop-forms_of_node
invariant-loop-forms_of_node l = HasSizes (cost_of l.costs) l.least (take l.forms_of_node-index l.forms) l.sizes
