use Rattle.std.proofs.Common.{◌≡◌, ◌≤◌, length, true, false, sym, subst, refl, below_more, arith}
use Rattle.cls_taxon.specs.Orders.{Declared}
use Rattle.cls_path.specs.Paths.{TypePath, PathLe, Suits}
use Rattle.cls_base.proofs.Lists.{Contains-at}
use Rattle.cls_library.specs.Arrows.{MultiArrow}
use Rattle.cls_library.specs.Libraries.{below_in, variances_in}
use Rattle.cls_library.specs.Reaching.{PathLeIn}
use Rattle.cls_check.specs.Deciding.{arrow_of}
use Rattle.cls_check.proofs.DecidingSteps.{both_ways}
use Rattle.cls_check.proofs.Keeping.{arrow_got, target_suits, target_below, none_below}
use Rattle.cls_check.proofs.reaching.is_above.Goals as goal

pub le-requires-clause-suits : goal.le-requires-clause-suits
le-requires-clause-suits c = subst (λ (t : Declared). Suits (variances_in t) c.target.result.now) (sym c.taxonomy.ensures)
    (subst (λ (p : TypePath). Suits (variances_in c.args.lib.now.taxonomy) p) (sym c.target.ensures)
    (target_suits (variances_in c.args.lib.now.taxonomy) c.args.had.now c.get.result (Contains-at c.args.had.now c.loop-i.i c.get.result c.get.ensures) c.requires.had))

pub returns-then-le : goal.returns-then-le
returns-then-le c = (
  (λ _. target_below c.args.lib.now c.args.had.now c.loop-i.i c.get.result c.args.path.now c.get.ensures
      (subst (λ (p : TypePath). PathLeIn c.args.lib.now p c.args.path.now) c.target.ensures
      (subst (λ (t : Declared). PathLe (below_in t) (variances_in t) c.target.result.now c.args.path.now) c.taxonomy.ensures (c.le.ensures.cases.0 c.if-le.true)))),
  (λ _. refl),
)

pub loop-i-preserved : goal.loop-i-preserved
loop-i-preserved c =
    below_more (λ k. PathLeIn c.args.lib.now (arrow_of c.args.had.now k).target c.args.path.now → ⊥) c.loop-i.i c.loop-i.invariant
    (λ h. both_ways (c.le.ensures.cases.1 (subst (λ (t : Declared). PathLe (below_in t) (variances_in t) c.target.result.now c.args.path.now) (sym c.taxonomy.ensures)
    (subst (λ (p : TypePath). PathLeIn c.args.lib.now p c.args.path.now) (sym c.target.ensures)
    (subst (λ (a : MultiArrow). PathLeIn c.args.lib.now a.target c.args.path.now) (arrow_got c.args.had.now c.loop-i.i c.get.result c.get.ensures) h)))) c.if-le.false)

pub returns : goal.returns
returns c =
    let t : c.len-i-end.result ≤ c.loop-i.i = c.loop-i-test.false in
    let n : c.len-i-end.result ≡ length c.args.had.now = c.len-i-end.ensures in (
      (λ e. absurd (let f : false ≡ true = e in cc)),
      (λ h. absurd (none_below c.args.lib.now c.args.had.now c.loop-i.i c.args.path.now (omega arith) c.loop-i.invariant h)),
    )
