use Rattle.std.proofs.Common.{◌≡◌, ◌≤◌, length, true, false, subst, refl, below_more, arith}
use Rattle.cls_library.specs.Arrows.{MultiArrow}
use Rattle.cls_check.specs.Deciding.{SomeAbove, arrow_of, source_of}
use Rattle.cls_check.proofs.DecidingSteps.{both_ways}
use Rattle.cls_check.proofs.Keeping.{arrow_got, source_leads, none_leads}
use Rattle.cls_check.proofs.asked.leads_to_some_source.Goals as goal

pub returns-then-leads_to_source : goal.returns-then-leads_to_source
returns-then-leads_to_source c = (
  (λ _. source_leads c.args.lib.now c.args.arrows.now c.loop-i.i c.get.result c.args.place c.args.target.now c.get.ensures (c.leads_to_source.ensures.0 c.if-leads_to_source.true)),
  (λ _. refl),
)

pub loop-i-preserved : goal.loop-i-preserved
loop-i-preserved c =
    below_more (λ k. SomeAbove c.args.lib.now (source_of (arrow_of c.args.arrows.now k) c.args.place) c.args.target.now → ⊥) c.loop-i.i c.loop-i.invariant
    (λ h. both_ways (c.leads_to_source.ensures.1 (subst (λ (a : MultiArrow). SomeAbove c.args.lib.now (source_of a c.args.place) c.args.target.now) (arrow_got c.args.arrows.now c.loop-i.i c.get.result c.get.ensures) h)) c.if-leads_to_source.false)

pub returns : goal.returns
returns c =
    let t : c.len-i-end.result ≤ c.loop-i.i = c.loop-i-test.false in
    let n : c.len-i-end.result ≡ length c.args.arrows.now = c.len-i-end.ensures in (
      (λ e. absurd (let f : false ≡ true = e in cc)),
      (λ h. absurd (none_leads c.args.lib.now c.args.arrows.now c.loop-i.i c.args.place c.args.target.now (omega arith) c.loop-i.invariant h)),
    )
