use Rattle.cls_enum.proofs.BoundLaws.{all_ready-later}
use Rattle.cls_enum.proofs.bounds.next_plans.Goals as goal

pub returns-else-wide-clause-ready : goal.returns-else-wide-clause-ready
returns-else-wide-clause-ready c = λ b cost w h. all_ready-later b cost c.args.size c.args.plans.items h
