use Rattle.std.proofs.Common.{◌≡◌, subst}
use Rattle.std.proofs.lemmas.Result.{err_from_is_err_and}
use Rattle.cls_callers.specs.Unions.{HasLargeUnion}
use Rattle.cls_expand.specs.Answers.{IsAnswer}
use Rattle.cls_table.specs.declared.fault.ExpandFault.TheVariants.{TooLarge}
use Rattle.cls_engine.specs.Engines.{EngineSeen}
use Rattle.cls_engine.proofs.BatchFaults.{union-root, root-union}
use Rattle.cls_engine.proofs.engine.Engine.expand_asked.Goals as goal

pub expand_all-requires-clause-ready : goal.expand_all-requires-clause-ready
expand_all-requires-clause-ready g c = λ κs below. c.facts.ensures.all_ready

pub returns-clause-rooted : goal.returns-clause-rooted
returns-clause-rooted g c = c.in_ok-finished.ensures.complete.closure

pub returns-clause-within : goal.returns-clause-within
returns-clause-within g c =
    subst (λ (e : EngineSeen). HasLargeUnion IsAnswer c.args.asked.now e.options.goals e.options.rules → ⊥) c.self.view_is
    (λ u. c.in_ok-finished.ensures.within (union-root c.args.asked.now c.self.inside.options c.args.count c.requires.count u))

pub returns-in_err-finished-clause-large : goal.returns-in_err-finished-clause-large
returns-in_err-finished-clause-large g c =
    let p = err_from_is_err_and c.from_residual.result c.from_residual.ensures.1 in
    rw (p.1, p.2)
    (λ (e : _ ≡ TooLarge). subst (λ (s : EngineSeen). HasLargeUnion IsAnswer c.args.asked.now s.options.goals s.options.rules) c.self.view_is
    (root-union c.args.asked.now c.self.inside.options c.args.count c.requires.count (c.in_err-finished.ensures.large e)))
