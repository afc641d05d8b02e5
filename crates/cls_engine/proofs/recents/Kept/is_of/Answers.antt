use Rattle.std.proofs.Common.{◌≡◌, ◌∙◌, sym, subst}
use Rattle.cls_path.specs.OrderLaws.{list_same}
use Rattle.cls_engine.specs.Goals.{Goal}
use Rattle.cls_engine.specs.Recents.{HasFirstGoal}
use Rattle.cls_engine.proofs.recents.Kept.is_of.Goals as goal

pub returns : goal.returns
returns c is =
    let same : c.goal.result.now ≡ c.args.goal.now = list_same _ _ (sym c.eq.ensures ∙ is) in
    subst (λ (g : Goal). HasFirstGoal c.args.self.now.grammar g) same c.goal.ensures
