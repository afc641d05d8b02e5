use Rattle.std.proofs.Common.{◌≡◌, ℕ, List, subst, ◌∙◌}
use Rattle.std.specs.Prelude.{slice_index}
use Rattle.cls_enum.proofs.Members.{take-whole}
use Rattle.cls_walk.specs.Frames.{least_sum}
use Rattle.cls_walk.specs.Tables.{capped}
use Rattle.cls_walk.proofs.FrameLeast.{sum-next}
use Rattle.cls_walk.proofs.smallest.sum_of.Goals as goal

pub loop-node-preserved : goal.loop-node-preserved
loop-node-preserved c = sum-next (slice_index c.args.least.now) c.args.nodes.now c.loop-node.node-index c.loop-node.total c.from.result c.plus-total.result c.loop-node-test.true c.loop-node.invariant (c.from.ensures ∙ c.number_of.ensures) c.plus-total.ensures

pub returns : goal.returns
returns c = let P : List ℕ → Type 0 = λ ns. c.loop-node.total ≡ capped (least_sum (slice_index c.args.least.now) ns) in subst P (take-whole c.loop-node.node-index c.args.nodes.now c.loop-node-test.false) c.loop-node.invariant
