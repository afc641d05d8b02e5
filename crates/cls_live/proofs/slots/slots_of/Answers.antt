use Rattle.std.proofs.Common.{ℕ, suc, ◌≡◌, ◌≤◌, ◌+◌, ◌++◌, ◌∷◌, ◌∙◌, [], List, ap, arith}
use Rattle.cls_live.specs.Slots.{first_slots}
use Rattle.cls_live.proofs.slots.slots_of.Goals as goal

pub loop-slot-preserved : goal.loop-slot-preserved
loop-slot-preserved c =
    let n = c.loop-slot.slot in
    c.in_ok-push.ensures.items
    ∙ (ap (λ (ns : List ℕ). ns ++ n ∷ []) c.loop-slot.invariant ∙ ap first_slots (let e : suc n ≡ n + 1 = omega arith in e))

pub returns : goal.returns
returns c =
    let t : c.args.count ≤ c.loop-slot.slot = c.loop-slot-test.false in
    let u : c.loop-slot.slot ≤ c.args.count = c.loop-slot.auto.slot-end in
    let k : c.loop-slot.slot ≡ c.args.count = omega arith in
    c.loop-slot.invariant ∙ ap first_slots k
