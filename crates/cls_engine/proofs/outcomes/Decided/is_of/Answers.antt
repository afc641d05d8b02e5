use Rattle.std.proofs.Common.{sym, ◌∙◌}
use Rattle.cls_path.specs.OrderLaws.{list_same}
use Rattle.cls_engine.proofs.outcomes.Decided.is_of.Goals as goal

pub returns : goal.returns
returns c is = list_same _ _ (sym c.eq.ensures ∙ is)
