use Rattle.std.proofs.Common.{◌+◌, ℕ, [], ◌∷◌, Vec, Global, List, ap, get_or, refl, subst, sym}
use Rattle.cls_walk.specs.FrameAiming.{aimed_begun, no_aim, Adds}
use Rattle.cls_walk.specs.FrameBegins.{aim_of}
use Rattle.cls_walk.specs.declared.aims.Aim.{Aim}
use Rattle.cls_walk.proofs.FrameAiming.{adds-in, adds-more, adds-out}
use Rattle.cls_walk.proofs.aiming.aim_begun.Goals as goal
use Rattle.cls_walk.proofs.aiming.aim_begun.Goals.{then-aim-place+in_ok-behind+in_ok-put, else-aim-place}

pub loop-aim-preserved : goal.loop-aim-preserved
loop-aim-preserved c =
    let level = c.args.level.now in
    let i = c.loop-aim.aim-index in
    let a = get_or level i no_aim in
    let place = c.args.place in
    let node = c.args.node in
    let own = c.args.own in
    let more : ℕ × ℕ = (node, own + a.behind) in
    let old = c.args.aims.now.items in
    let here = c.loop-aim.aims.items in
    let new = c.if-aim-place.aims.items in
    adds-more (aimed_begun place node own) aim_of level i a no_aim old here new c.loop-aim-test.true refl c.loop-aim.invariant (elim c.if-aim-place.branch [
      | then-aim-place+in_ok-behind+in_ok-put w ↦
          let e = w.in_ok-behind.ensures (own + a.behind) w.plus.ensures in
          let P : List Aim → Type 0 = λ zs. Adds (more ∷ []) here zs in
          let Q : ℕ → Type 0 = λ z. Adds ((node, z) ∷ []) here w.put.new.aims.items in
          adds-in a.node place more here new w.if-aim-place.true (subst P (sym (ap (λ (v : Vec Aim Global). v.items) w.aims-is)) (subst Q e w.in_ok-put.ensures))
      | else-aim-place w ↦ adds-out a.node place more here new w.if-aim-place.false (ap (λ (v : Vec Aim Global). v.items) w.aims-is)
    ])
