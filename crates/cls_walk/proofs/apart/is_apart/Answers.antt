use Rattle.std.proofs.Common.{List, ℕ, sym, subst}
use Rattle.cls_base.specs.declared.rule.Rule.{Rule}
use Rattle.cls_base.specs.Columns.{rule_of}
use Rattle.cls_walk.specs.Apart.{AreApartBehind}
use Rattle.cls_walk.proofs.RunSteps.{rules-from}
use Rattle.cls_walk.proofs.apart.is_apart.Goals as goal

pub loop-place-preserved : goal.loop-place-preserved
loop-place-preserved c = λ a.
    let P : List (Rule ℕ) → Type 0 = λ rs. AreApartBehind c.loop-place.seen rs in
    c.loop-place.invariant (subst P (sym (rules-from c.args.rules.now c.loop-place.place (rule_of c.get-rule.result) c.get-rule.ensures)) (c.in-Some.ensures _ a))
