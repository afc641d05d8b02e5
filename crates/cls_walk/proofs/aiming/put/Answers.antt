use Rattle.std.proofs.Common.{◌≡◌, ◌<◌, List, get_or, slice_set, length, refl, subst, arith, ap}
use Rattle.std.proofs.lemmas.List.{get_or_read}
use Rattle.cls_walk.specs.FrameAiming.{no_aim}
use Rattle.cls_walk.specs.declared.aims.Aim.{Aim}
use Rattle.cls_walk.proofs.FrameAiming.{adds-push, adds-set, adds-there}
use Rattle.cls_walk.proofs.aiming.put.Goals as goal

pub returns-in_default : goal.returns-in_default
returns-in_default c = adds-push c.args.aims.now.items c.push.new.self.items c.args.aim c.in_ok-push.ensures.items

pub returns-then-aim-index : goal.returns-then-aim-index
returns-then-aim-index c =
    let xs = c.args.aims.now.items in
    let i = c.in-Some.place in
    let P : List Aim → Type 0 = λ zs. (i < length zs) × ((get_or zs i no_aim).node ≡ c.args.aim.node) in
    let (l, e) = subst P c.as_slice.ensures.value c.in-Some.ensures in
    let r = ap (λ (z : Aim). z.behind) (get_or_read xs _ _ l c.index.ensures no_aim) in
    let t = c.if-aim-index.true in
    adds-set xs (slice_set xs i c.args.aim) i no_aim c.args.aim refl l e (omega (arith, r, t))

pub returns-else-aim-index : goal.returns-else-aim-index
returns-else-aim-index c =
    let xs = c.args.aims.now.items in
    let i = c.in-Some.place in
    let P : List Aim → Type 0 = λ zs. (i < length zs) × ((get_or zs i no_aim).node ≡ c.args.aim.node) in
    let (l, e) = subst P c.as_slice.ensures.value c.in-Some.ensures in
    let r = ap (λ (z : Aim). z.behind) (get_or_read xs _ _ l c.index.ensures no_aim) in
    let t = c.if-aim-index.false in
    adds-there xs xs i no_aim c.args.aim refl l e (omega (arith, r, t))
