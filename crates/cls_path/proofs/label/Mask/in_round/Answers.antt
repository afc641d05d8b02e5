use Rattle.std.proofs.Common.{rules, inl, inr}
use Rattle.cls_path.proofs.label.Mask.in_round.Goals as goal

pub returns-then-rounds-le2 : goal.returns-then-rounds-le2
returns-then-rounds-le2 c = inl (search rules)

pub returns-else-rounds-le2 : goal.returns-else-rounds-le2
returns-else-rounds-le2 c = inr (search rules)
