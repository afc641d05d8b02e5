use Rattle.std.proofs.Common.{◌≡◌, [], ℕ, List, Bool, true, false, cond, map, sym, ap, subst, ◌∙◌}
use Rattle.std.specs.Prelude.{OnOk, IfErr}
use Rattle.cls_base.specs.declared.rule.Rule.{Rule}
use Rattle.cls_filter.specs.Automata.{is_accepting}
use Rattle.cls_filtered.specs.Faults.{IfTooManyRules}
use Rattle.cls_filtered.specs.Filtered.{rules_to}
use Rattle.cls_filtered.specs.StepBooks.{step_rule}
use Rattle.cls_filtered.specs.Makings.{IsMade, IsTooMuch}
use Rattle.cls_filtered.proofs.Makings.{made-none}
use Rattle.cls_filtered.proofs.maker.Maker.put_accepting.Goals as goal

pub returns-then-not-is_accepting-clause-ok : goal.returns-then-not-is_accepting-clause-ok
returns-then-not-is_accepting-clause-ok c =
    let rs = rules_to c.args.filter.now c.args.self.now.kept (map step_rule c.args.steps.now) c.args.state in
    let no : is_accepting c.args.filter.now c.args.state ≡ false = sym c.is_accepting.ensures.accepting ∙ c.if-not-is_accepting.true in
    subst (λ (qs : List (Rule ℕ)). IsMade qs c.args.making.now c.args.making.now) (ap (λ (b : Bool). cond b rs []) (sym no)) (made-none c.args.making.now)

pub returns-clause-ok : goal.returns-clause-ok
returns-clause-ok c =
    let rs = rules_to c.args.filter.now c.args.self.now.kept (map step_rule c.args.steps.now) c.args.state in
    let yes : is_accepting c.args.filter.now c.args.state ≡ true = sym c.is_accepting.ensures.accepting ∙ c.if-not-is_accepting.false in
    subst (λ (b : Bool). OnOk c.put_rules.result (IsMade (cond b rs []) c.args.making.now c.put_rules.new.making)) (sym yes) c.put_rules.ensures.ok

pub returns-clause-large : goal.returns-clause-large
returns-clause-large c =
    let rs = rules_to c.args.filter.now c.args.self.now.kept (map step_rule c.args.steps.now) c.args.state in
    let yes : is_accepting c.args.filter.now c.args.state ≡ true = sym c.is_accepting.ensures.accepting ∙ c.if-not-is_accepting.false in
    subst (λ (b : Bool). IfErr c.put_rules.result (λ fault. IfTooManyRules fault (IsTooMuch (cond b rs []) c.args.making.now))) (sym yes) c.put_rules.ensures.large
