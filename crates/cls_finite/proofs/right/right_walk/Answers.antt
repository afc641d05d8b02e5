use Rattle.std.proofs.Common.{◌==◌, ◌∙◌, ap, subst, List, ℕ}
use Rattle.std.specs.List.{list_any}
use Rattle.cls_finite.specs.declared.walk.Step.{Step}
use Rattle.cls_finite.specs.Walks.{Leads}
use Rattle.cls_finite.proofs.Stepping.{right-exactly, never-right}
use Rattle.cls_finite.proofs.right.right_walk.Goals as goal

pub returns-in_default : goal.returns-in_default
returns-in_default g c = never-right (g.B.RuleBook.book c.args.book.now) c.args.walk.now (subst (λ (l : List Step). (n : ℕ) → Leads (g.B.RuleBook.book c.args.book.now) 0 l n → ⊥) c.as_slice.ensures c.in_default.ensures.none)

pub returns : goal.returns
returns g c =
    let leads = subst (λ (l : List Step). Leads (g.B.RuleBook.book c.args.book.now) 0 l c.in-Some.end) c.as_slice.ensures c.in-Some.ensures.some in
    right-exactly (g.B.RuleBook.book c.args.book.now) c.args.walk.now c.in-Some.end c.passes-right.result leads (c.passes-right.ensures ∙ ap (list_any (λ (s : Step). s.goal == c.in-Some.end)) c.as_slice-2.ensures)
