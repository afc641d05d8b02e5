use Rattle.std.proofs.Common.{◌≡◌, ◌<◌, ◌≤◌, length, List, get_or, true, false, sym, ap, subst, refl, below_more, arith}
use Rattle.cls_path.specs.Paths.{TypePath, listed, unit}
use Rattle.cls_library.specs.Libraries.{variances_in}
use Rattle.cls_check.specs.Deciding.{SomeBelow, targets_of}
use Rattle.cls_check.proofs.Deciding.{cover_one, cover_each}
use Rattle.cls_check.proofs.Lists.{in_position}
use Rattle.cls_check.proofs.DecidingSteps.{item_is, item_in, item_suits, both_ways}
use Rattle.cls_check.proofs.reaching.are_above.Goals as goal

pub is_above-requires-clause-path : goal.is_above-requires-clause-path
is_above-requires-clause-path c = item_suits (variances_in c.args.lib.now.taxonomy) c.args.goal.now c.paths-path-items.result.now c.loop-path.path-index c.path-item.result c.paths-path-items.ensures c.loop-path-test.true c.path-item.is c.requires.goal

pub returns-then-not-is_above : goal.returns-then-not-is_above
returns-then-not-is_above c = (
  (λ e. absurd (let f : false ≡ true = e in cc)),
  (λ h. absurd (both_ways (c.is_above.ensures.1 (cover_one c.args.lib.now c.count-count.ensures.library (targets_of c.args.had.now) (listed c.args.goal.now) h c.path-item.result
      (item_in c.args.goal.now c.paths-path-items.result.now c.loop-path.path-index c.path-item.result c.paths-path-items.ensures c.loop-path-test.true c.path-item.is))) c.if-not-is_above.true)),
)

pub loop-path-preserved : goal.loop-path-preserved
loop-path-preserved c =
    below_more (λ k. SomeBelow c.args.lib.now (targets_of c.args.had.now) (get_or c.args.goal.now k unit)) c.loop-path.path-index c.loop-path.invariant
    (subst (λ (q : TypePath). SomeBelow c.args.lib.now (targets_of c.args.had.now) q) (sym (item_is c.args.goal.now c.paths-path-items.result.now c.loop-path.path-index c.path-item.result unit c.paths-path-items.ensures c.loop-path-test.true c.path-item.is)) (c.is_above.ensures.0 c.if-not-is_above.false))

pub returns : goal.returns
returns c = (
  (λ _. cover_each c.args.lib.now c.count-count.ensures.library (targets_of c.args.had.now) (listed c.args.goal.now) (λ q i.
      let k = in_position c.args.goal.now q i in
      let size : length c.paths-path-items.result.now ≡ length c.args.goal.now = ap (λ (ps : List TypePath). length ps) c.paths-path-items.ensures in
      let t : length c.paths-path-items.result.now ≤ c.loop-path.path-index = c.loop-path-test.false in
      let l : k.0 < length c.args.goal.now = k.1 in
      subst (λ (p : TypePath). SomeBelow c.args.lib.now (targets_of c.args.had.now) p) (k.2 unit) (c.loop-path.invariant k.0 (omega arith)))),
  (λ _. refl),
)
