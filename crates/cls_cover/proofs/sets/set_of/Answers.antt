use Rattle.std.proofs.Common.{ℕ, List, take, get_or, subst, refl}
use Rattle.std.proofs.lemmas.List.{take_more}
use Rattle.cls_base.proofs.Lists.{take_whole}
use Rattle.cls_cover.specs.Sets.{IsSetOf}
use Rattle.cls_cover.proofs.SetBits.{none_in, set_more}
use Rattle.cls_cover.proofs.sets.set_of.Goals as goal

pub loop-x-init : goal.loop-x-init
loop-x-init c = λ x. ((λ h. absurd (none_in 0 x refl h)), (λ m. elim m [ ]))

pub loop-x-preserved : goal.loop-x-preserved
loop-x-preserved c =
    let xs = c.args.positions.now in
    let i = c.loop-x.x-index in
    rw (take_more xs i 0 c.loop-x-test.true)
    (set_more (take i xs) (get_or xs i 0) c.loop-x.set c.alone-set.result c.loop-x.invariant c.alone-set.ensures)

pub returns : goal.returns
returns c = subst (λ (xs : List ℕ). IsSetOf xs c.loop-x.set) (take_whole c.args.positions.now c.loop-x.x-index c.loop-x-test.false) c.loop-x.invariant
