use Rattle.std.proofs.Common.{map}
use Rattle.cls_filtered.specs.StepBooks.{step_rule}
use Rattle.cls_filtered.specs.Makings.{AreMade}
use Rattle.cls_filtered.proofs.Nodes.{kept_below}
use Rattle.cls_filtered.proofs.maker.Maker.put_nodes.Given as goal

abbrev pub invariant-loop-state : goal.invariant-loop-state
invariant-loop-state l =
    AreMade (kept_below l.filter l.self.kept l.node (map step_rule l.steps) l.state) l.fn.draft.nodes.items l.draft.nodes.items l.fn.draft.room l.draft.room
