use Rattle.std.proofs.Common.{◌≡◌, ◌<◌, ◌∷◌, [], Bool, true, false, cond, length, map, sym, subst, ◌∙◌}
use Rattle.std.specs.Prelude.{OnOk, IfErr}
use Rattle.cls_filtered.specs.Faults.{IfTooManyRules}
use Rattle.cls_filtered.specs.Filtered.{is_kept, rules_to, rule_total}
use Rattle.cls_filtered.specs.StepBooks.{step_rule}
use Rattle.cls_filtered.specs.Makings.{AreMade}
use Rattle.cls_filtered.proofs.FaultLaws.{large-weaker}
use Rattle.cls_filtered.proofs.Makings.{nodes-none}
use Rattle.cls_filtered.proofs.Nodes.{one-much}
use Rattle.cls_filtered.proofs.maker.Maker.put_kept.Goals as goal

pub returns-then-not-has-clause-ok : goal.returns-then-not-has-clause-ok
returns-then-not-has-clause-ok c =
    let rs = rules_to c.args.filter.now c.args.self.now.kept (map step_rule c.args.steps.now) c.args.pair.1 in
    let no : is_kept c.args.self.now.kept c.args.pair.0 c.args.pair.1 ≡ false = sym c.has.ensures ∙ c.if-not-has.true in
    subst (λ (b : Bool). AreMade (cond b (rs ∷ []) []) c.args.draft.now.nodes.items c.args.draft.now.nodes.items c.args.draft.now.room c.args.draft.now.room) (sym no) (nodes-none c.args.draft.now.nodes.items c.args.draft.now.room)

pub returns-clause-ok : goal.returns-clause-ok
returns-clause-ok c =
    let rs = rules_to c.args.filter.now c.args.self.now.kept (map step_rule c.args.steps.now) c.args.pair.1 in
    let yes : is_kept c.args.self.now.kept c.args.pair.0 c.args.pair.1 ≡ true = sym c.has.ensures ∙ c.if-not-has.false in
    subst (λ (b : Bool). OnOk c.put_node.result (AreMade (cond b (rs ∷ []) []) c.args.draft.now.nodes.items c.put_node.new.draft.nodes.items c.args.draft.now.room c.put_node.new.draft.room)) (sym yes) c.put_node.ensures.ok

pub returns-clause-large : goal.returns-clause-large
returns-clause-large c =
    let rs = rules_to c.args.filter.now c.args.self.now.kept (map step_rule c.args.steps.now) c.args.pair.1 in
    let yes : is_kept c.args.self.now.kept c.args.pair.0 c.args.pair.1 ≡ true = sym c.has.ensures ∙ c.if-not-has.false in
    subst (λ (b : Bool). IfErr c.put_node.result (λ fault. IfTooManyRules fault (c.args.draft.now.room < rule_total (cond b (rs ∷ []) [])))) (sym yes)
    (large-weaker c.put_node.result (c.args.draft.now.room < length rs) (c.args.draft.now.room < rule_total (rs ∷ [])) (one-much rs c.args.draft.now.room) c.put_node.ensures.large)
