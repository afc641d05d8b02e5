use Rattle.std.proofs.Common.{◌≡◌, ℕ, List, length, subst, arith}
use Rattle.cls_walk.specs.FrameAims.{Aim}
use Rattle.cls_walk.specs.FrameGuides.{own_size, least_of}
use Rattle.cls_walk.specs.FrameLevels.{levels_of}
use Rattle.cls_walk.specs.FrameOffered.{AreGatheredAt}
use Rattle.cls_walk.specs.FrameWalks.{IsOffered}
use Rattle.cls_walk.specs.Openings.{IsGathered}
use Rattle.cls_walk.proofs.FrameGathered.{gathered-more, offered-gathered}
use Rattle.cls_walk.proofs.PutOffers.{put-then}
use Rattle.cls_walk.proofs.offers.gather.Goals as goal

pub loop-pairs-preserved : goal.loop-pairs-preserved
loop-pairs-preserved c =
    let inv = c.loop-pairs.invariant in
    let e = c.in_ok-gather_at.ensures in
    let i = c.loop-pairs.pairs in
    let first = c.len-first.result in
    let levels = levels_of c.args.levels.now c.args.top in
    let old = c.loop-pairs.offers.items in
    let new = c.gather_at.new.offers.items in
    record {
      put = put-then first c.args.offers.now.items old new inv.put e.put;
      gathered = λ own s.
          let Q : List Aim → Type 0 = λ zs. AreGatheredAt own c.args.size c.args.spare first c.args.guide.rules.now i zs new in
          gathered-more own c.args.size c.args.spare first c.args.guide.rules.now levels i old new e.put (inv.gathered own s) (subst Q c.level-level.ensures (e.gathered own s));
    }

pub returns-clause-gathered : goal.returns-clause-gathered
returns-clause-gathered c = λ book cost right.
    let offers = c.loop-pairs.offers.items in
    let levels = levels_of c.args.levels.now c.args.top in
    let P : ℕ → Type 0 = λ z. (x k : ℕ) → IsOffered book (least_of c.args.guide) cost levels c.args.size c.args.spare x k → IsGathered z offers x k in
    let long : c.len-first.result ≡ length c.args.offers.now.items = let e = c.len-first.ensures in let n = c.args.offers.now.ok.0 in omega (arith, e, n) in
    subst P long (offered-gathered book cost c.args.guide right c.args.size c.args.spare c.len-first.result levels c.loop-pairs.pairs offers
    (λ q l. c.height-pairs-end.ensures q (let e = c.loop-pairs-test.false in omega (arith, l, e)))
    (c.loop-pairs.invariant.gathered (own_size cost c.args.guide) right.sized))
