use Rattle.std.proofs.Common.{◌≡◌, None, Some, arith, sym, ◌∙◌, subst}
use Rattle.std.proofs.lemmas.List.{append-nil}
use Rattle.std.proofs.lemmas.List.Elements.{All-pop}
use Rattle.cls_table.specs.Batches.{IsClaimBy}
use Rattle.cls_table.specs.Seen.{ClaimSeen}
use Rattle.cls_table.proofs.Batches.{claim-leaves, claim-comes, filing-comes, work-again, work-goes, work-stays}
use Rattle.cls_table.proofs.batch.Batch.expand.Goals as goal

pub loop-claim-preserved : goal.loop-claim-preserved
loop-claim-preserved g c =
    let IsMeant : ClaimSeen g.row.E-Tag.Denot g.row.E-Goal.Denot → Type 0 =
    λ x. g.E.Expand.tag c.args.by.now ≡ x.tag.by in
    let i = c.loop-claim.invariant in
    let popped = c.in-Some.ensures.items in
    let e = c.push_reserved.ensures in record {
      meant = (All-pop IsMeant _ _ (Some c.in-Some.claim) popped i.meant).0;
      room = omega (arith, i.room, c.in-Some.ensures.len, e.len, e.capacity);
      work = work-goes c.args.self.now _ _ _ _ c.in-Some.claim c.in-Ok.filed popped e.items c.in-Ok.ensures.claim i.work;
      for_one = λ t worker was.
          (let left = claim-leaves t worker _ _ _ (Some c.in-Some.claim) popped (i.for_one t worker was) in
          filing-comes t worker _ _ _ _ e.items (subst (λ (x : ClaimSeen g.row.E-Tag.Denot g.row.E-Goal.Denot). IsClaimBy t worker x) (sym c.in-Ok.ensures.claim) left.1) left.0);
    }

pub returns-in-Err-clause-work : goal.returns-in-Err-clause-work
returns-in-Err-clause-work g c =
    work-again c.args.self.now _ _ _ _ c.in-Some.claim c.in-Err.claim c.in-Some.ensures.items
    c.push_reserved-in-Err.ensures.items c.in-Err.ensures.err c.loop-claim.invariant.work

pub returns-in-Err-clause-batch : goal.returns-in-Err-clause-batch
returns-in-Err-clause-batch g c t worker was =
    let left = claim-leaves t worker _ _ _ (Some c.in-Some.claim) c.in-Some.ensures.items
    (c.loop-claim.invariant.for_one t worker was) in
    claim-comes t worker _ _ _ _ c.push_reserved-in-Err.ensures.items (subst (λ (x : ClaimSeen g.row.E-Tag.Denot g.row.E-Goal.Denot). IsClaimBy t worker x) (sym c.in-Err.ensures.err) left.1) left.0

pub returns-clause-work : goal.returns-clause-work
returns-clause-work g c =
    work-stays c.args.self.now _ _ _ (c.in_default.ensures.items ∙ append-nil _) c.loop-claim.invariant.work

pub returns-clause-batch : goal.returns-clause-batch
returns-clause-batch g c t worker was =
    (claim-leaves t worker _ _ _ None c.in_default.ensures.items (c.loop-claim.invariant.for_one t worker was)).0
