use Rattle.std.proofs.Common.{ℕ, List, subst, sym}
use Rattle.std.specs.Prelude.{option_copied, IfOk, IfErr}
use Rattle.cls_base.specs.declared.rule.Rule.{Rule}
use Rattle.cls_base.specs.Languages.{IsGenerated}
use Rattle.cls_base.specs.Pages.{IsPage}
use Rattle.cls_term.specs.Costs.{cost_of}
use Rattle.cls_enum.specs.Faults.{IfTooMany}
use Rattle.cls_enum.specs.Plans.{AllReady}
use Rattle.cls_enum.specs.Requests.{request}
use Rattle.cls_enum.specs.States.{FitsPool, ExceedsPool}
use Rattle.cls_enum.proofs.paging.page.Goals as goal

pub list-requires-clause-ready : goal.list-requires-clause-ready
list-requires-clause-ready g c =
    let p = c.in_ok-plans.ensures.book in
    subst (λ (x : List (List (Rule ℕ))). AllReady x (cost_of c.args.costs.now) 0 c.in_ok-plans.plans.items) (sym p) (c.in_ok-plans.ensures.ready 0)

pub returns-clause-page : goal.returns-clause-page
returns-clause-page g c =
    let r = request c.args.costs.now (option_copied c.args.after) c.args.max_size c.args.take in
    subst (λ (x : List (List (Rule ℕ))). IfOk c.list.result (λ p. IsPage (IsGenerated x 0) r p.terms p.more)) c.in_ok-plans.ensures.book c.list.ensures.page

pub returns-clause-within : goal.returns-clause-within
returns-clause-within g c =
    let r = request c.args.costs.now (option_copied c.args.after) c.args.max_size c.args.take in
    subst (λ (x : List (List (Rule ℕ))). IfOk c.list.result (λ _. FitsPool x r c.args.pool)) c.in_ok-plans.ensures.book c.list.ensures.within

pub returns-clause-over : goal.returns-clause-over
returns-clause-over g c =
    let r = request c.args.costs.now (option_copied c.args.after) c.args.max_size c.args.take in
    subst (λ (x : List (List (Rule ℕ))). IfErr c.list.result (λ fault. IfTooMany fault (ExceedsPool x r c.args.pool))) c.in_ok-plans.ensures.book c.list.ensures.over
