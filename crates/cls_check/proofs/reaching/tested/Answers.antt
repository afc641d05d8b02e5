use Rattle.std.proofs.Common.{ℕ, ◌≡◌, ◌<◌, ◌≤◌, ◌+◌, ◌↔◌, length, List, sym, ◌∙◌, subst, ap, arith, Contains}
use Rattle.cls_library.specs.Arrows.{MultiArrow}
use Rattle.cls_check.specs.Asking.{goals_of}
use Rattle.cls_check.specs.Deciding.{arrow_of, IsLeading}
use Rattle.cls_check.proofs.DecidingSteps.{leading_yes, leading_no, both_ways}
use Rattle.cls_check.proofs.Keeping.{arrow_got, below_each, kept_of_all}
use Rattle.cls_check.proofs.reaching.tested.Goals as goal
use Rattle.cls_check.proofs.reaching.tested.Goals.{then-leads_to_asked+in_ok-push, else-leads_to_asked}

pub loop-i-preserved : goal.loop-i-preserved
loop-i-preserved c =
    let here : arrow_of c.args.arrows c.loop-i.i ≡ c.get.result = arrow_got c.args.arrows c.loop-i.i c.get.result c.get.ensures in
    let leads : c.target.result.now ≡ (arrow_of c.args.arrows c.loop-i.i).target = c.target.ensures ∙ ap (λ (a : MultiArrow). a.target) (sym here) in
    elim c.if-leads_to_asked.branch [
      | then-leads_to_asked+in_ok-push w ↦ leading_yes (λ k. IsLeading c.args.lib.now (goals_of c.args.asked.now) (arrow_of c.args.arrows k).target) c.loop-i.positions.items c.if-leads_to_asked.positions.items c.loop-i.i (ap (λ v. v.items) w.positions-is ∙ w.in_ok-push.ensures.ok)
          (subst (λ p. IsLeading c.args.lib.now (goals_of c.args.asked.now) p) leads (c.leads_to_asked.ensures.0 w.if-leads_to_asked.true)) c.loop-i.invariant
      | else-leads_to_asked w ↦ subst (λ (ps : List ℕ). (k : ℕ) → Contains ps k ↔ ((k < c.loop-i.i + 1) × IsLeading c.args.lib.now (goals_of c.args.asked.now) (arrow_of c.args.arrows k).target)) (sym (ap (λ v. v.items) w.positions-is))
          (leading_no (λ k. IsLeading c.args.lib.now (goals_of c.args.asked.now) (arrow_of c.args.arrows k).target) c.loop-i.positions.items c.loop-i.i
          (λ h. both_ways (c.leads_to_asked.ensures.1 (subst (λ p. IsLeading c.args.lib.now (goals_of c.args.asked.now) p) (sym leads) h)) w.if-leads_to_asked.false) c.loop-i.invariant)
    ]

pub invariant_of-result : goal.invariant_of-result
invariant_of-result c =
    let u : c.loop-i.i ≤ c.len-i-end.result = c.loop-i.auto.i-end in
    let n : c.len-i-end.result ≡ length c.args.arrows = c.len-i-end.ensures in
    below_each (length c.args.arrows) c.loop-i.positions.items (λ k m. let l : k < c.loop-i.i = ((c.loop-i.invariant k).0 m).0 in omega arith)

pub returns : goal.returns
returns c =
    let t : c.len-i-end.result ≤ c.loop-i.i = c.loop-i-test.false in
    let u : c.loop-i.i ≤ c.len-i-end.result = c.loop-i.auto.i-end in
    let n : c.len-i-end.result ≡ length c.args.arrows = c.len-i-end.ensures in
    let e : c.loop-i.i ≡ length c.args.arrows = omega arith in
    kept_of_all c.args.arrows (λ a. IsLeading c.args.lib.now (goals_of c.args.asked.now) a.target) c.loop-i.positions.items
    (subst (λ (j : ℕ). (k : ℕ) → Contains c.loop-i.positions.items k ↔ ((k < j) × IsLeading c.args.lib.now (goals_of c.args.asked.now) (arrow_of c.args.arrows k).target)) e c.loop-i.invariant)
