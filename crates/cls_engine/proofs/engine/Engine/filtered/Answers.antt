use Rattle.std.proofs.Common.{rules}
use Rattle.std.specs.Prelude.{option_copied}
use Rattle.cls_base.specs.Ty.{type_of}
use Rattle.cls_enum.specs.Requests.{request}
use Rattle.cls_engine.proofs.FilteredPages.{filter-large, filter-page, filter-silent, filter-over}
use Rattle.cls_engine.proofs.engine.Engine.filtered.Goals as goal

pub returns-in_err-book-clause-fault : goal.returns-in_err-book-clause-fault
returns-in_err-book-clause-fault g c =
    let h = filter-large c.args.self.now.library c.args.self.now.options (type_of c.args.ty.now) _ c.in_ok-grammar.ensures.known c.args.filter.now c.is_accepting-accepts.ensures.automaton
    (request c.args.self.now.costs (option_copied c.args.after) c.args.max c.args.take) c.in_err-book.field-0.0 (rw c.closure.ensures.same at c.in_err-book.ensures.large) in
    search (rules, h)

pub returns-in_err-page-clause-fault : goal.returns-in_err-page-clause-fault
returns-in_err-page-clause-fault g c =
    let h = filter-over c.args.self.now.library c.args.self.now.options (type_of c.args.ty.now) _ c.in_ok-grammar.ensures.known c.args.filter.now c.is_accepting-accepts.ensures.automaton
    (request c.args.self.now.costs (option_copied c.args.after) c.args.max c.args.take) c.in_ok-book.book c.in_ok-book.ensures.book (rw c.closure.ensures.same at c.in_ok-book.ensures.within) c.facts.ensures.costs
    c.in_err-page.field-0.0 (rw (c.keep_recent.ensures.same, c.closure.ensures.same) at c.in_err-page.ensures.over) in
    search (rules, h)

pub returns-clause-page : goal.returns-clause-page
returns-clause-page g c =
    filter-page c.args.self.now.library c.args.self.now.options (type_of c.args.ty.now) _ c.in_ok-grammar.ensures.known c.args.filter.now c.is_accepting-accepts.ensures.automaton
    (request c.args.self.now.costs (option_copied c.args.after) c.args.max c.args.take) c.in_ok-book.book c.in_ok-book.ensures.book (rw c.closure.ensures.same at c.in_ok-book.ensures.within) _ _
    (rw (c.keep_recent.ensures.same, c.closure.ensures.same) at c.in_ok-page.ensures.page)

pub returns-clause-silent : goal.returns-clause-silent
returns-clause-silent g c =
    filter-silent c.args.self.now.library c.args.self.now.options (type_of c.args.ty.now) _ c.in_ok-grammar.ensures.known c.args.filter.now c.is_accepting-accepts.ensures.automaton
    (request c.args.self.now.costs (option_copied c.args.after) c.args.max c.args.take) c.in_ok-book.book c.in_ok-book.ensures.book (rw c.closure.ensures.same at c.in_ok-book.ensures.within)
    (rw (c.keep_recent.ensures.same, c.closure.ensures.same) at c.in_ok-page.ensures.within)
