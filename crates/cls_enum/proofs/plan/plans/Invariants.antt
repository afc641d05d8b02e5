use Rattle.std.proofs.Common.{◌≡◌, ℕ, List, take}
use Rattle.cls_base.specs.declared.rule.Rule.{Rule}
use Rattle.cls_term.specs.Costs.{cost_of}
use Rattle.cls_enum.specs.Plans.{AllReady, book_of}
use Rattle.cls_enum.proofs.plan.plans.Given as goal

abbrev pub invariant-loop-node : goal.invariant-loop-node
invariant-loop-node g l =
    let book = g.B.RuleBook.book l.book in
    record {
      made : ◌≡◌ {A = List (List (Rule ℕ))} (book_of l.plans.items) (take l.node book);
      ready : (s : ℕ) → AllReady book (cost_of l.costs) s l.plans.items;
    }
