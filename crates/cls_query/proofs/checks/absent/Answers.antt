use Rattle.std.proofs.Common.{refl}
use Rattle.cls_query.proofs.CodeForms.{absent_is, held_is}
use Rattle.cls_query.proofs.checks.absent.Goals as goal

pub returns-in-Some : goal.returns-in-Some
returns-in-Some c = held_is c.args.table.now _ _ c.in-Some.ensures.stands

pub returns-in-None : goal.returns-in-None
returns-in-None c = (absent_is c.args.table.now _ (c.in-None.ensures.absent.0 refl), refl)
