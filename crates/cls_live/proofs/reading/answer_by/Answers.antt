use Rattle.std.proofs.Common.{◌≤◌, length, subst, sym, List, arith}
use Rattle.cls_base.specs.declared.rule.Rule.{Rule}
use Rattle.cls_expand.specs.Answers.{AreRulesBefore}
use Rattle.cls_live.specs.Parts.{Goal}
use Rattle.cls_live.proofs.Readings.{read_before}
use Rattle.cls_live.proofs.reading.answer_by.Goals as goal

pub returns-then-is_empty : goal.returns-then-is_empty
returns-then-is_empty c = c.rules_of.ensures

pub read-requires-clause-rising : goal.read-requires-clause-rising
read-requires-clause-rising c = c.requires.stored.1.rising

pub count_below-first-requires : goal.count_below-first-requires
count_below-first-requires c = c.requires.stored.1.rising

pub rules_from-requires-clause-within : goal.rules_from-requires-clause-within
rules_from-requires-clause-within c =
    let even = c.requires.stored.1.even in
    let within : c.count_below-first.result ≤ length c.args.live.now = c.count_below-first.ensures.within in
    omega arith

pub rules_from-requires-clause-before : goal.rules_from-requires-clause-before
rules_from-requires-clause-before c =
    let stored = c.requires.stored in
    let at = c.count_below-first.ensures in
    subst (λ (rs : List (Rule Goal)). AreRulesBefore c.args.by.now c.count_below-first.result c.args.goal.now rs) (sym c.in_ok-rules.ensures)
    (read_before c.args.goals.now c.args.by.now c.args.live.now stored.0 c.args.goal.now c.args.known.now c.count_below-first.result stored.1 stored.2 at.within at.before at.here)
