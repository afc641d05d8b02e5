use Rattle.std.proofs.Common.{ℕ, ap, ◌∙◌}
use Rattle.cls_query.proofs.CodeForms.{cursor_means}
use Rattle.cls_query.proofs.build.page.Goals as goal

pub returns-clause-page : goal.returns-clause-page
returns-clause-page c components given =
    let goal_is = c.in_ok-goal.ensures.ty in
    let max_is = ap (λ (p : ℕ × ℕ). p.0) c.in-Some.ensures.1 in
    let take_is = ap (λ (p : ℕ × ℕ). p.1) c.in-Some.ensures.1 in
    let after_is = c.in_ok-after.ensures ∙ (given ∙ cursor_means components c.args.spelled.now.after) in
    λ i. record { goal = goal_is i; max = max_is i; take = take_is i; after = after_is i }
