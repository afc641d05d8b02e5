use Rattle.std.proofs.Common.{subst}
use Rattle.std.specs.Prelude.{option_copied, IfSome}
use Rattle.std.proofs.lemmas.Result.{IfOk-weaker, err_from_is_err_and}
use Rattle.cls_term.specs.Costs.{cost_of}
use Rattle.cls_enum.specs.Requests.{request}
use Rattle.cls_enum.specs.States.{ExceedsPool, FitsPool}
use Rattle.cls_enum.proofs.FillSteps.{IfTooMany-weaker}
use Rattle.cls_walk.proofs.Endings.{page-up, fits-up, exceeds-up, too_many_weaker}
use Rattle.cls_walk.proofs.paging.page.Goals as goal

pub returns-clause-page : goal.returns-clause-page
returns-clause-page g c =
    let book = g.B.RuleBook.book c.args.book.now in
    IfOk-weaker c.page.result _ _
    (λ p h. page-up book (cost_of c.args.costs.now) c.args.take (option_copied c.args.after) c.last_size-last.result c.args.max_size c.last_size-last.ensures.within c.last_size-last.ensures.ends p.terms p.more h)
    c.page.ensures.page

pub returns-clause-within : goal.returns-clause-within
returns-clause-within g c =
    let book = g.B.RuleBook.book c.args.book.now in
    IfOk-weaker c.page.result _ _
    (λ p h. fits-up book (cost_of c.args.costs.now) c.args.take (option_copied c.args.after) c.last_size-last.result c.args.max_size c.last_size-last.ensures.within c.last_size-last.ensures.ends c.args.pool h)
    c.page.ensures.within

pub returns-clause-over : goal.returns-clause-over
returns-clause-over g c =
    let book = g.B.RuleBook.book c.args.book.now in
    let costs = c.args.costs.now in
    let after = option_copied c.args.after in
    let last = c.last_size-last.result in
    too_many_weaker c.page.result (ExceedsPool book (request costs after last c.args.take) c.args.pool) (ExceedsPool book (request costs after c.args.max_size c.args.take) c.args.pool)
    (exceeds-up book (cost_of costs) c.args.take after last c.args.max_size c.last_size-last.ensures.within c.last_size-last.ensures.ends c.args.pool)
    c.page.ensures.over

pub returns-in_err-walked-clause-over : goal.returns-in_err-walked-clause-over
returns-in_err-walked-clause-over g c =
    let book = g.B.RuleBook.book c.args.book.now in
    let last = c.last_size-last.result in
    let p = err_from_is_err_and c.from_residual-in_err-walked.result c.from_residual-in_err-walked.ensures.1 in
    rw (p.1, p.2) (IfTooMany-weaker _ _ _
    (exceeds-up book (cost_of c.args.costs.now) c.args.take (option_copied c.args.after) last c.args.max_size c.last_size-last.ensures.within c.last_size-last.ensures.ends c.args.pool)
    c.in_err-walked.ensures.over)

pub returns-in-Some-clause-within : goal.returns-in-Some-clause-within
returns-in-Some-clause-within g c =
    let book = g.B.RuleBook.book c.args.book.now in
    let costs = c.args.costs.now in
    let after = option_copied c.args.after in
    let last = c.last_size-last.result in
    fits-up book (cost_of costs) c.args.take after last c.args.max_size c.last_size-last.ensures.within c.last_size-last.ensures.ends c.args.pool
    (subst (λ o. IfSome o (λ _. FitsPool book (request costs after last c.args.take) c.args.pool)) c.in-Some.is c.in_ok-walked.ensures.within)
