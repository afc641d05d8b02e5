use Rattle.std.proofs.Common.{subst, ◌≤◌, IfOk, IfErr}
use Rattle.cls_filtered.specs.Faults.{IfTooManyRules}
use Rattle.cls_filtered.specs.Filtered.{HasLargeFilter, rule_total}
use Rattle.cls_grammar.specs.Grammars.{book_of}
use Rattle.cls_engine.specs.Engines.{EngineSeen}
use Rattle.cls_engine.proofs.engine.Engine.filtered_book.Goals as goal

pub returns-clause-within : goal.returns-clause-within
returns-clause-within c =
    subst (λ (e : EngineSeen). IfOk c.filtered.result (λ book. rule_total book ≤ e.options.rules)) c.self.view_is c.filtered.ensures.within

pub returns-clause-large : goal.returns-clause-large
returns-clause-large c =
    subst (λ (e : EngineSeen). IfErr c.filtered.result (λ fault. IfTooManyRules fault (HasLargeFilter (book_of c.args.grammar.now) c.args.filter.now e.options.rules)))
    c.self.view_is c.filtered.ensures.large
