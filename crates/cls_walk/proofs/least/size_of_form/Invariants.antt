use Rattle.std.proofs.Common.{◌≡◌, ◌+◌, take}
use Rattle.cls_term.specs.Costs.{cost_of}
use Rattle.cls_walk.specs.Filled.{needs}
use Rattle.cls_walk.specs.Tables.{capped}
use Rattle.cls_walk.proofs.least.size_of_form.Given as goal

abbrev pub invariant-loop-node : goal.invariant-loop-node
invariant-loop-node l = l.total ≡ capped (cost_of l.costs l.form.0 + needs l.least (take l.node-index l.node-items))
