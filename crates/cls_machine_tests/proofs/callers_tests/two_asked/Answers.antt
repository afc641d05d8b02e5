use Rattle.std.proofs.Common.{◌∙◌, ℕ, length, ap, arith}
use Rattle.cls_callers.specs.declared.tag.AskTag.{AskTag}
use Rattle.cls_machine_tests.specs.declared.heap.Node.{Node}
use Rattle.cls_machine_tests.specs.Nodes.{node}
use Rattle.cls_machine_tests.proofs.Asks.{two-asked}
use Rattle.cls_machine_tests.proofs.callers_tests.two_asked.Goals as goal

pub new-requires : goal.new-requires
new-requires c =
    two-asked c.args.heap.now.size c.new-goals.result (node 0) (node 1) (c.new-goals.ensures ∙ c.in_ok-nodes.ensures.items)
    (omega (arith, c.requires.0), c.requires.1) c.requires

pub returns : goal.returns
returns c =
    ap (λ (t : AskTag ℕ Node). length t.goals) c.new.ensures ∙ ap length (c.new-goals.ensures ∙ c.in_ok-nodes.ensures.items)
