use Rattle.std.proofs.Common.{arith, sym, ◌∙◌}
use Rattle.cls_base.specs.Columns.{rule_of}
use Rattle.cls_finite.proofs.Stepping.{no-goal, no-rule, useless-none, useful-leads, none-leads}
use Rattle.cls_finite.proofs.right.next_goal.Goals as goal

pub returns-then-step-count-clause-none : goal.returns-then-step-count-clause-none
returns-then-step-count-clause-none g c = no-goal (g.B.RuleBook.book c.args.book.now) c.args.step (omega (arith, c.if-step-count.true, c.count.ensures.count))

pub returns-in_default-clause-none : goal.returns-in_default-clause-none
returns-in_default-clause-none g c = no-rule (g.B.RuleBook.book c.args.book.now) c.args.flags.now c.requires c.args.step c.rules-rules.result.now c.rules-rules.ensures.rules (sym c.in_default.ensures)

pub returns-then-not-is_useful-clause-none : goal.returns-then-not-is_useful-clause-none
returns-then-not-is_useful-clause-none g c = useless-none (g.B.RuleBook.book c.args.book.now) c.args.flags.now c.requires c.args.step c.rules-rules.result.now c.rules-rules.ensures.rules (rule_of c.in-Some.rule) (sym c.in-Some.ensures) (sym c.is_useful.ensures ∙ c.if-not-is_useful.true)

pub returns-clause-some : goal.returns-clause-some
returns-clause-some g c = useful-leads (g.B.RuleBook.book c.args.book.now) c.args.flags.now c.requires c.args.step c.rules-rules.result.now c.rules-rules.ensures.rules (rule_of c.in-Some.rule) (sym c.in-Some.ensures) (sym c.is_useful.ensures ∙ c.if-not-is_useful.false) c.argument.result c.argument.ensures

pub returns-clause-none : goal.returns-clause-none
returns-clause-none g c = none-leads (g.B.RuleBook.book c.args.book.now) c.args.flags.now c.requires c.args.step c.rules-rules.result.now c.rules-rules.ensures.rules (rule_of c.in-Some.rule) (sym c.in-Some.ensures) c.argument.result c.argument.ensures
