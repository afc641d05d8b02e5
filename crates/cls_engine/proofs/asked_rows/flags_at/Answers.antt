use Rattle.std.proofs.Common.{◌++◌, ◌∷◌, [], ℕ, false, length, get_or, slice_index_or, sym, ◌∙◌}
use Rattle.std.proofs.lemmas.List.{map_more}
use Rattle.cls_base.proofs.Lists.{AreBelow-at}
use Rattle.cls_engine.proofs.asked_rows.flags_at.Goals as goal

pub bounds-flags-node : goal.bounds-flags-node
bounds-flags-node c =
    AreBelow-at (length c.args.flags.now) c.args.nodes.now c.loop-node.node-index c.requires c.loop-node-test.true

pub loop-node-preserved : goal.loop-node-preserved
loop-node-preserved c =
    let flag = λ (n : ℕ). slice_index_or c.args.flags.now n false in
    let nodes = c.args.nodes.now in
    let i = c.loop-node.node-index in
    c.in_ok-push.ensures.items
    ∙ ((λ j. c.loop-node.invariant j ++ flag (get_or nodes i 0) ∷ [])
    ∙ sym (map_more flag nodes i 0 c.loop-node-test.true))
