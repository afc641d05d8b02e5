use Rattle.cls_base.specs.Subtyping.{reflexivity}
use Rattle.cls_check.proofs.Loops.{is-true}
use Rattle.cls_check.proofs.met.MetCovers.is_above.Goals as goal

pub returns-then-has-clause-above : goal.returns-then-has-clause-above
returns-then-has-clause-above c = ((λ t. (c.args.nf.now, c.has.ensures.0 c.if-has.true, reflexivity)), (λ h. is-true))
