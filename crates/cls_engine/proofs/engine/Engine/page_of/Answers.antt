use Rattle.std.proofs.Common.{subst, IfOk, IfErr}
use Rattle.std.specs.Prelude.{option_copied}
use Rattle.cls_enum.specs.Faults.{IfTooMany}
use Rattle.cls_enum.specs.Requests.{request}
use Rattle.cls_enum.specs.States.{ExceedsPool, FitsPool}
use Rattle.cls_engine.specs.Engines.{EngineSeen}
use Rattle.cls_engine.proofs.engine.Engine.page_of.Goals as goal

pub returns-clause-within : goal.returns-clause-within
returns-clause-within g c =
    subst (λ (e : EngineSeen). IfOk c.page.result (λ _. FitsPool (g.B.RuleBook.book c.args.book.now) (request e.costs (option_copied c.args.after) c.args.max c.args.take) e.options.pool))
    c.self.view_is c.page.ensures.within

pub returns-clause-over : goal.returns-clause-over
returns-clause-over g c =
    subst (λ (e : EngineSeen). IfErr c.page.result (λ fault. IfTooMany fault (ExceedsPool (g.B.RuleBook.book c.args.book.now) (request e.costs (option_copied c.args.after) c.args.max c.args.take) e.options.pool)))
    c.self.view_is c.page.ensures.over
