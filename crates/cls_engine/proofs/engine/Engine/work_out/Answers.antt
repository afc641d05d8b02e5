use Rattle.std.proofs.Common.{rules}
use Rattle.cls_engine.proofs.Completions.{complete-fits, complete-known, closing-grammar}
use Rattle.cls_engine.proofs.engine.Engine.work_out.Goals as goal

pub keep-requires-clause-fit : goal.keep-requires-clause-fit
keep-requires-clause-fit g c =
    complete-fits c.args.self.now.library c.args.self.now.options c.args.goal c.in_ok-finished.finished (rw c.index.ensures at c.in_ok-finished.ensures.complete) c.facts.ensures.in_range

pub returns-in_err-grammar-clause-fault : goal.returns-in_err-grammar-clause-fault
returns-in_err-grammar-clause-fault g c =
    let h = closing-grammar c.args.self.now.library c.args.self.now.options c.args.goal c.in_ok-finished.finished (rw c.index.ensures at c.in_ok-finished.ensures.complete)
    (c.renumbered_rows_are_canonical.ensures c.args.self.now.library) c.in_err-grammar.field-0.0 c.in_err-grammar.ensures.wide in
    search (rules, h)

pub returns-clause-known : goal.returns-clause-known
returns-clause-known g c =
    let h = complete-known c.args.self.now.library c.args.self.now.options c.args.goal c.in_ok-finished.finished (rw c.index.ensures at c.in_ok-finished.ensures.complete)
    (c.renumbered_rows_are_canonical.ensures c.args.self.now.library) c.requires.ready c.in_ok-grammar.ensures.none_wide in
    rw c.in_ok-grammar.ensures.ok h
