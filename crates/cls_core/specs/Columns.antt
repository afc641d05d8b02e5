-- internal: answers whose rules stand in columns
use Rattle.std.specs.Prelude.{ℕ, List, Option, Some, None}
use Rattle.cls_base.specs.declared.rule.Rule.{Rule}
use Rattle.cls_core.specs.declared.answer.Answer.{Answer}
use Rattle.cls_core.specs.declared.answer.Answer.TheVariants.{Rules, Wide}

-- the answer with these rules, or of a wide goal if there are none
abbrev pub answer_with : Option (List (Rule ℕ)) → Answer ℕ
answer_with (Some rs) = Rules rs
answer_with None = Wide
