use Rattle.std.proofs.Common.{◌≡◌, ◌+◌, ◌∙◌, ℕ, [], ◌∷◌, List, ap, get_or, map, refl, subst}
use Rattle.cls_walk.specs.FrameAiming.{no_pair, Adds}
use Rattle.cls_walk.specs.FrameColumns.{pair_of}
use Rattle.cls_walk.specs.FrameGuides.{least_of}
use Rattle.cls_enum.proofs.Members.{take-whole}
use Rattle.cls_walk.specs.declared.rules.Pair.{Pair}
use Rattle.cls_walk.proofs.FrameAiming.{adds-one}
use Rattle.cls_walk.proofs.aiming.step_by.Goals as goal

pub loop-pair-preserved : goal.loop-pair-preserved
loop-pair-preserved c =
    let pairs = c.pairs_of-pair-items.result.now in
    let i = c.loop-pair.pair-index in
    let p = get_or pairs i no_pair in
    let least = least_of c.args.guide in
    let behind = c.args.aim.behind in
    let here = c.loop-pair.aims.items in
    let own : c.from-own.result ≡ least p.right = c.from-own.ensures ∙ c.number_of.ensures in
    let e : c.in_ok-behind.behind ≡ least p.right + behind = c.in_ok-behind.ensures (c.from-own.result + behind) c.plus.ensures ∙ ap (λ (z : ℕ). z + behind) own in
    let P : ℕ → Type 0 = λ z. Adds ((p.left, z) ∷ []) here c.put.new.aims.items in
    adds-one (λ (q : ℕ × ℕ). (q.0, least q.1 + behind)) pair_of pairs i p no_pair c.args.aims.now.items here c.put.new.aims.items
    c.loop-pair-test.true refl c.loop-pair.invariant (subst P e c.in_ok-put.ensures)

pub returns : goal.returns
returns c = λ book cost g.
    let pairs = c.pairs_of-pair-items.result.now in
    let i = c.loop-pair.pair-index in
    let least = least_of c.args.guide in
    let behind = c.args.aim.behind in
    let step : ℕ × ℕ → ℕ × ℕ = λ q. (q.0, least q.1 + behind) in
    let P : List Pair → Type 0 = λ zs. Adds (map step (map pair_of zs)) c.args.aims.now.items c.loop-pair.aims.items in
    let Q : List (ℕ × ℕ) → Type 0 = λ zs. Adds (map step zs) c.args.aims.now.items c.loop-pair.aims.items in
    subst Q (ap (map pair_of) c.pairs_of-pair-items.ensures ∙ g.rules.pairs c.args.aim.node) (subst P (take-whole i pairs c.loop-pair-test.false) c.loop-pair.invariant)
