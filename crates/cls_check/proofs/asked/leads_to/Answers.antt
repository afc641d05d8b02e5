use Rattle.std.proofs.Common.{◌≡◌, ◌<◌, ◌≤◌, length, List, get_or, true, false, sym, ap, subst, refl, below_more, arith}
use Rattle.cls_taxon.specs.Orders.{Declared}
use Rattle.cls_path.specs.Paths.{TypePath, PathLe, Suits, unit}
use Rattle.cls_library.specs.Libraries.{below_in, variances_in}
use Rattle.cls_library.specs.Reaching.{PathLeIn}
use Rattle.cls_check.proofs.Lists.{in_position}
use Rattle.cls_check.proofs.DecidingSteps.{item_is, item_in, item_suits, both_ways}
use Rattle.cls_check.proofs.asked.leads_to.Goals as goal

pub le-requires-clause-other_suits : goal.le-requires-clause-other_suits
le-requires-clause-other_suits c = subst (λ (t : Declared). Suits (variances_in t) c.path-item.result) (sym c.taxonomy.ensures)
    (item_suits (variances_in c.args.lib.now.taxonomy) c.args.goal.now c.paths-path-items.result.now c.loop-path.path-index c.path-item.result c.paths-path-items.ensures c.loop-path-test.true c.path-item.is c.requires.goal)

pub returns-then-le : goal.returns-then-le
returns-then-le c = (
  (λ _. (
    c.path-item.result,
    item_in c.args.goal.now c.paths-path-items.result.now c.loop-path.path-index c.path-item.result c.paths-path-items.ensures c.loop-path-test.true c.path-item.is,
    subst (λ (t : Declared). PathLe (below_in t) (variances_in t) c.args.target.now c.path-item.result) c.taxonomy.ensures (c.le.ensures.cases.0 c.if-le.true),
  )),
  (λ _. refl),
)

pub loop-path-preserved : goal.loop-path-preserved
loop-path-preserved c =
    below_more (λ k. PathLeIn c.args.lib.now c.args.target.now (get_or c.args.goal.now k unit) → ⊥) c.loop-path.path-index c.loop-path.invariant
    (λ h. both_ways (c.le.ensures.cases.1 (subst (λ (t : Declared). PathLe (below_in t) (variances_in t) c.args.target.now c.path-item.result) (sym c.taxonomy.ensures)
    (subst (λ (q : TypePath). PathLeIn c.args.lib.now c.args.target.now q) (item_is c.args.goal.now c.paths-path-items.result.now c.loop-path.path-index c.path-item.result unit c.paths-path-items.ensures c.loop-path-test.true c.path-item.is) h))) c.if-le.false)

pub returns : goal.returns
returns c = (
  (λ e. absurd (let f : false ≡ true = e in cc)),
  (λ r.
      let k = in_position c.args.goal.now r.0 r.1 in
      let size : length c.paths-path-items.result.now ≡ length c.args.goal.now = ap (λ (ps : List TypePath). length ps) c.paths-path-items.ensures in
      let t : length c.paths-path-items.result.now ≤ c.loop-path.path-index = c.loop-path-test.false in
      let l : k.0 < length c.args.goal.now = k.1 in
      absurd (c.loop-path.invariant k.0 (omega arith) (subst (λ (q : TypePath). PathLeIn c.args.lib.now c.args.target.now q) (sym (k.2 unit)) r.2))),
)
