use Rattle.std.proofs.Common.{rules}
use Rattle.std.specs.Prelude.{option_copied}
use Rattle.cls_base.specs.Ty.{type_of}
use Rattle.cls_enum.specs.Requests.{request}
use Rattle.cls_engine.proofs.Pages.{list-page, list-silent, list-over}
use Rattle.cls_engine.proofs.engine.Engine.list.Goals as goal

pub returns-in_err-page-clause-fault : goal.returns-in_err-page-clause-fault
returns-in_err-page-clause-fault g c =
    let h = list-over c.args.self.now.library c.args.self.now.options (type_of c.args.ty.now) _ c.in_ok-grammar.ensures.known
    (request c.args.self.now.costs (option_copied c.args.after) c.args.max c.args.take) c.facts.ensures.costs c.in_err-page.field-0.0 (rw c.closure.ensures.same at c.in_err-page.ensures.over) in
    search (rules, h)

pub returns-clause-page : goal.returns-clause-page
returns-clause-page g c =
    list-page c.args.self.now.library c.args.self.now.options (type_of c.args.ty.now) _ c.in_ok-grammar.ensures.known
    (request c.args.self.now.costs (option_copied c.args.after) c.args.max c.args.take) _ _ (rw c.closure.ensures.same at c.in_ok-page.ensures.page)

pub returns-clause-silent : goal.returns-clause-silent
returns-clause-silent g c =
    list-silent c.args.self.now.library c.args.self.now.options (type_of c.args.ty.now) _ c.in_ok-grammar.ensures.known
    (request c.args.self.now.costs (option_copied c.args.after) c.args.max c.args.take) (rw c.closure.ensures.same at c.in_ok-page.ensures.within)
