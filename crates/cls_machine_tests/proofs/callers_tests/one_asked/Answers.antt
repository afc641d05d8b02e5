use Rattle.std.proofs.Common.{◌∙◌}
use Rattle.cls_machine_tests.specs.Nodes.{node}
use Rattle.cls_machine_tests.proofs.Asks.{one-asked}
use Rattle.cls_machine_tests.proofs.callers_tests.one_asked.Goals as goal

pub new-requires : goal.new-requires
new-requires c =
    one-asked c.args.heap.now.size c.new-goals.result (node 0) (c.new-goals.ensures ∙ c.in_ok-nodes.ensures.items) c.requires
