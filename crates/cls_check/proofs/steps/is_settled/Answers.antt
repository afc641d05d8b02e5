use Rattle.std.proofs.Common.{ℕ, subst, sym, ap, ◌∙◌, length, List}
use Rattle.cls_base.specs.Lists.{AreBelow}
use Rattle.cls_library.specs.Arrows.{MultiArrow}
use Rattle.cls_check.specs.Places.{arrows_in}
use Rattle.cls_check.proofs.Stepping.{family_below}
use Rattle.cls_check.proofs.steps.is_settled.Goals as goal

pub all_met-requires-clause-family : goal.all_met-requires-clause-family
all_met-requires-clause-family c =
    subst (λ (n : ℕ). AreBelow n c.args.family.now) (sym (c.len-count.ensures ∙ ap (λ (q : List MultiArrow). length q) c.arrows.ensures.arrows))
    (family_below c.args.lib.now (arrows_in c.args.lib.now c.args.place) c.args.path.now c.args.family.now c.requires.family)
