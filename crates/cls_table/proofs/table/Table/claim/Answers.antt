use Rattle.std.proofs.Common.{arith, ◌∙◌, ap, subst, sym}
use Rattle.cls_table.specs.Lawful.{claims_in, IsLarge}
use Rattle.cls_table.proofs.Counting.{claims_in_claim, claims_in_bound}
use Rattle.cls_table.proofs.table.Table.claim.Goals as goal

pub overflow_add-self : goal.overflow_add-self
overflow_add-self g c =
    let k = c.self.invariant in
    let h = claims_in_bound c.claim.new.self.history in
    let n = ap claims_in c.in_ok-claim.ensures.history ∙ claims_in_claim c.self.inside.progress.history c.args.worker
    c.in-Some.row in
    omega (arith, k.0, k.1, h, n, c.in_ok-claim.ensures.small)

pub invariant_of-self-2 : goal.invariant_of-self-2
invariant_of-self-2 g c =
    let k = c.self.invariant in
    let n = ap claims_in c.in_ok-claim.ensures.history ∙ claims_in_claim c.self.inside.progress.history c.args.worker
    c.in-Some.row in (
      omega (arith, k.0, n, c.add.ensures.total),
      omega (arith, k.1, c.add.ensures.total),
      λ l. subst (λ t. IsLarge g.E.Expand.answers t) (sym c.in_ok-claim.ensures.tag) (k.2 l),
    )
