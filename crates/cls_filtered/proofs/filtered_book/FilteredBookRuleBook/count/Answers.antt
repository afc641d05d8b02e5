use Rattle.std.proofs.Common.{ℕ, List, length, ap, arith}
use Rattle.cls_base.specs.declared.rule.Rule.{Rule}
use Rattle.cls_filtered.proofs.filtered_book.FilteredBookRuleBook.count.Goals as goal

pub overflow_cast-result : goal.overflow_cast-result
overflow_cast-result c = omega (arith, c.len.ensures, c.self.inside.nodes.ok.0, c.self.invariant.few)

pub returns-clause-count : goal.returns-clause-count
returns-clause-count c =
    omega (arith, c.len.ensures, c.self.inside.nodes.ok.0, ap (λ (b : List (List (Rule ℕ))). length b) c.self.view_is)

pub returns-clause-some : goal.returns-clause-some
returns-clause-some c = omega (arith, c.len.ensures, c.self.inside.nodes.ok.0, c.self.invariant.rules.some)
