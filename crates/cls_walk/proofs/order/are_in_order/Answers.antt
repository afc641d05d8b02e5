use Rattle.std.proofs.Common.{List, take, subst}
use Rattle.cls_base.specs.Columns.{rule_of}
use Rattle.cls_walk.specs.Counts.{HeadRule, heads_of}
use Rattle.cls_walk.specs.Lasts.{EndWith}
use Rattle.cls_walk.proofs.OrderSteps.{heads-next}
use Rattle.cls_walk.proofs.order.are_in_order.Goals as goal

pub loop-place-preserved : goal.loop-place-preserved
loop-place-preserved c =
    let hs = heads_of ((take c.loop-place.place c.args.rules.now)) in
    let P : List HeadRule → Type 0 = λ gs. EndWith c.in-Some.next gs in
    subst P (heads-next c.args.rules.now c.loop-place.place (rule_of c.get-rule.result) c.get-rule.ensures) (c.in-Some.ensures hs c.loop-place.invariant)
