use Rattle.std.proofs.Common.{refl}
use Rattle.cls_session.proofs.SessionStates.{Stands-none}
use Rattle.cls_session.proofs.session.Session.new.Goals as goal

pub returns-clause-stands : goal.returns-clause-stands
returns-clause-stands c = Stands-none c.args.options _ refl c.new.ensures refl
