use Rattle.std.proofs.Common.{ℕ, ◌≡◌, ◌<◌, inl, inr, subst, arith}
use Rattle.cls_library.specs.Leads.{NoneLeads, place_at}
use Rattle.cls_library.proofs.Orders.{less-or-not}
use Rattle.cls_library.proofs.lead.next_count.Goals as goal

pub loop-count-preserved : goal.loop-count-preserved
loop-count-preserved c = λ k a b. elim (less-or-not k c.loop-count.count) [
  | inl m ↦ c.loop-count.invariant k a m
  | inr m ↦ (let e : c.loop-count.count ≡ k = omega arith in
      subst (λ (n : ℕ). NoneLeads c.args.lib.now c.args.sought (place_at c.args.from.component n)) e (c.may_lead_by.ensures c.if-may_lead_by.false))
]

pub returns : goal.returns
returns c = λ k a b.
    let e = c.arity-count-end.ensures in
    let f = c.loop-count-test.false in
    let m : k < c.loop-count.count = omega arith in
    c.loop-count.invariant k a m
