use Rattle.std.proofs.Common.{◌<◌, [], ℕ, List, length, ap, subst, ◌∙◌, arith}
use Rattle.std.proofs.lemmas.List.{get_or_default}
use Rattle.cls_base.specs.declared.rule.Rule.{Rule}
use Rattle.cls_base.specs.Books.{HaveNodesBelow}
use Rattle.cls_base.specs.Languages.{rules_at}
use Rattle.cls_filtered.proofs.filtered_book.FilteredBookRuleBook.rules.Goals as goal

pub index-requires : goal.index-requires
index-requires c =
    omega (arith, c.requires, c.self.inside.nodes.ok.0, ap (λ (b : List (List (Rule ℕ))). length b) c.self.view_is)

pub returns-clause-rules : goal.returns-clause-rules
returns-clause-rules c =
    let nodes = c.self.inside.nodes.items in
    let within : c.args.i < length nodes = omega (arith, c.requires, ap (λ (b : List (List (Rule ℕ))). length b) c.self.view_is) in
    c.index.ensures ∙ (get_or_default nodes c.args.i c.index.result.now [] within ∙ ap (λ (b : List (List (Rule ℕ))). rules_at b c.args.i) c.self.view_is)

pub returns-clause-within : goal.returns-clause-within
returns-clause-within c =
    subst (λ (b : List (List (Rule ℕ))). HaveNodesBelow (length b) (rules_at b c.args.i)) c.self.view_is (c.self.invariant.rules.within c.args.i)
