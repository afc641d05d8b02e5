use Rattle.cls_walk.specs.declared.aims.Aim.{Aim}
use Rattle.cls_walk.proofs.FrameGathered.{gathered-aim, gathered-level}
use Rattle.cls_walk.proofs.PutOffers.{put-then}
use Rattle.cls_walk.proofs.offers.gather_at.Goals as goal

pub loop-aim-preserved : goal.loop-aim-preserved
loop-aim-preserved c =
    let inv = c.loop-aim.invariant in
    let e = c.in_ok-gather_by.ensures in
    let none : Aim = record { node = 0; behind = 0 } in
    let old = c.loop-aim.offers.items in
    let new = c.gather_by.new.offers.items in
    record {
      put = put-then c.args.first c.args.offers.now.items old new inv.put e.put;
      gathered = λ own s.
          gathered-aim own c.args.size c.args.spare c.args.first c.args.guide.rules.now c.args.pairs c.args.level.now c.loop-aim.aim-index none old new c.loop-aim-test.true e.put (e.gathered own s) (inv.gathered own s);
    }

pub returns-clause-gathered : goal.returns-clause-gathered
returns-clause-gathered c = λ own s.
    gathered-level own c.args.size c.args.spare c.args.first c.args.guide.rules.now c.args.pairs c.args.level.now c.loop-aim.aim-index c.loop-aim.offers.items c.loop-aim-test.false (c.loop-aim.invariant.gathered own s)
