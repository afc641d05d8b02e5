use Rattle.std.proofs.Common.{[], ◌∷◌, Vec, Global, List, ap, get_or, refl, subst, sym}
use Rattle.cls_walk.specs.FrameAiming.{aimed_pair, no_pair, Adds}
use Rattle.cls_walk.specs.FrameColumns.{pair_of}
use Rattle.cls_walk.specs.declared.aims.Aim.{Aim}
use Rattle.cls_walk.proofs.FrameAiming.{adds-in, adds-more, adds-out}
use Rattle.cls_walk.proofs.aiming.aim_by_pairs.Goals as goal
use Rattle.cls_walk.proofs.aiming.aim_by_pairs.Goals.{then-pair-node+in_ok-put, else-pair-node}

pub loop-pair-preserved : goal.loop-pair-preserved
loop-pair-preserved c =
    let pairs = c.args.pairs.now in
    let i = c.loop-pair.pair-index in
    let p = get_or pairs i no_pair in
    let node = c.args.node in
    let behind = c.args.behind in
    let old = c.args.aims.now.items in
    let here = c.loop-pair.aims.items in
    let new = c.if-pair-node.aims.items in
    adds-more (aimed_pair node behind) pair_of pairs i p no_pair old here new c.loop-pair-test.true refl c.loop-pair.invariant (elim c.if-pair-node.branch [
      | then-pair-node+in_ok-put w ↦
          let P : List Aim → Type 0 = λ zs. Adds ((p.right, behind) ∷ []) here zs in
          adds-in p.left node (p.right, behind) here new w.if-pair-node.true (subst P (sym (ap (λ (v : Vec Aim Global). v.items) w.aims-is)) w.in_ok-put.ensures)
      | else-pair-node w ↦ adds-out p.left node (p.right, behind) here new w.if-pair-node.false (ap (λ (v : Vec Aim Global). v.items) w.aims-is)
    ])
