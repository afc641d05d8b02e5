use Rattle.cls_syntax.proofs.OmegaTexts.{omega_alone, not_alone}
use Rattle.cls_syntax.proofs.spelled_type.SpelledType.is_omega.Goals as goal

pub returns-then-self-eq1 : goal.returns-then-self-eq1
returns-then-self-eq1 c = omega_alone _ c.args.self.now.spelled c.if-self-eq1.true _ c.begins_reserved.ensures

pub returns-else-self-eq1 : goal.returns-else-self-eq1
returns-else-self-eq1 c = not_alone _ c.args.self.now.spelled c.if-self-eq1.false
