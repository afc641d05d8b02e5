use Rattle.std.proofs.Common.{◌≡◌, ◌+◌, ◌^◌, ◌<◌, ℕ, List, Bool, length, sym, ap, subst, ◌∙◌, arith}
use Rattle.std.proofs.lemmas.Result.{IfOk-weaker}
use Rattle.cls_base.specs.declared.rule.Rule.{Rule}
use Rattle.cls_filtered.specs.Filtered.{count_true, filtered_book, IsFiltered, rule_total, HasLargeFilter}
use Rattle.cls_filtered.specs.Stepwise.{AreSteps}
use Rattle.cls_filtered.proofs.FaultLaws.{large-weaker}
use Rattle.cls_filtered.proofs.Nodes.{made-filtered, large-filtered}
use Rattle.cls_filtered.proofs.Steps.{stepwise-length, stepwise-steps}
use Rattle.cls_filtered.proofs.filtered_book.filtered.Goals as goal

pub states_of-requires-clause-steps : goal.states_of-requires-clause-steps
states_of-requires-clause-steps g c =
    let book = g.B.RuleBook.book c.args.book.now in
    subst (λ (b : List (List (Rule ℕ))). AreSteps b) (sym c.in_ok-steps.ensures.steps) (stepwise-steps book c.in_ok-steps.ensures.book)

pub states_of-requires-clause-automaton : goal.states_of-requires-clause-automaton
states_of-requires-clause-automaton g c = c.is_accepting-accepts.ensures.automaton

pub book_of-requires-clause-some : goal.book_of-requires-clause-some
book_of-requires-clause-some g c =
    let book = g.B.RuleBook.book c.args.book.now in
    let whole = c.in_ok-steps.ensures.book in
    let steps = ap (λ (b : List (List (Rule ℕ))). length b) c.in_ok-steps.ensures.steps in
    omega (arith, whole.some, steps, stepwise-length book)

pub book_of-requires-clause-sized : goal.book_of-requires-clause-sized
book_of-requires-clause-sized g c =
    ap (λ (fs : List Bool). length fs) c.in_ok-maker.ensures.kept ∙ c.in_ok-flags.ensures.count

pub book_of-requires-clause-few : goal.book_of-requires-clause-few
book_of-requires-clause-few g c =
    subst (λ (fs : List Bool). count_true fs + 1 < 2 ^ 32) (sym c.in_ok-maker.ensures.kept) c.in_ok-maker.ensures.few

pub returns-clause-book : goal.returns-clause-book
returns-clause-book g c =
    let book = g.B.RuleBook.book c.args.book.now in
    let steps = c.in_ok-steps.steps in
    let a = c.args.filter.now in
    let flags = c.in_ok-flags.flags.items in
    let kept = c.in_ok-maker.maker.kept in
    IfOk-weaker c.book_of.result (λ (made : List (List (Rule ℕ))). made ≡ filtered_book a kept steps) (λ (made : List (List (Rule ℕ))). IsFiltered book a made)
    (λ made e. made-filtered book steps a flags kept made c.in_ok-steps.ensures.steps c.in_ok-flags.ensures c.in_ok-maker.ensures.kept e) c.book_of.ensures.book

pub returns-clause-large : goal.returns-clause-large
returns-clause-large g c =
    let book = g.B.RuleBook.book c.args.book.now in
    let steps = c.in_ok-steps.steps in
    let a = c.args.filter.now in
    let flags = c.in_ok-flags.flags.items in
    let kept = c.in_ok-maker.maker.kept in
    large-weaker c.book_of.result (c.args.limit < rule_total (filtered_book a kept steps)) (HasLargeFilter book a c.args.limit)
    (large-filtered book steps a flags kept c.args.limit c.in_ok-steps.ensures.steps c.in_ok-flags.ensures c.in_ok-maker.ensures.kept) c.book_of.ensures.large
