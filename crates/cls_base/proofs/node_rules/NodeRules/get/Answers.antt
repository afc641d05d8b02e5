use Rattle.std.proofs.Common.{◌≡◌, ◌<◌, ℕ, List, Some, length, arith, ap, ◌∙◌, subst}
use Rattle.std.specs.Prelude.{Option, slice_get}
use Rattle.cls_base.specs.declared.rule.Rule.{Rule}
use Rattle.cls_base.specs.Columns.{HasArguments, rule_with, rules_with}
use Rattle.cls_base.proofs.Columns.{rule-at, arguments-at, any-with}
use Rattle.cls_base.proofs.node_rules.NodeRules.get.Goals as goal

pub bounds-args-0 : goal.bounds-args-0
bounds-args-0 c =
    let ns = c.get-args.result.now in
    let l : c.args.place < length (rules_with c.self.inside.heads.items c.self.inside.args) = omega (arith, c.requires, ap length c.self.view_is) in
    let h = arguments-at c.self.inside.heads.items c.self.inside.args c.args.place c.index.result.now ns c.self.invariant l c.index.ensures c.get-args.ensures in
    let e : length ns ≡ 2 = subst (λ (k : Option ℕ). HasArguments k ns) c.in-None.is h in
    omega (arith, e)

pub bounds-args-1 : goal.bounds-args-1
bounds-args-1 c =
    let ns = c.get-args.result.now in
    let l : c.args.place < length (rules_with c.self.inside.heads.items c.self.inside.args) = omega (arith, c.requires, ap length c.self.view_is) in
    let h = arguments-at c.self.inside.heads.items c.self.inside.args c.args.place c.index.result.now ns c.self.invariant l c.index.ensures c.get-args.ensures in
    let e : length ns ≡ 2 = subst (λ (k : Option ℕ). HasArguments k ns) c.in-None.is h in
    omega (arith, e)

pub returns-in-Some : goal.returns-in-Some
returns-in-Some c =
    let ns = c.get-args.result.now in
    let l : c.args.place < length (rules_with c.self.inside.heads.items c.self.inside.args) = omega (arith, c.requires, ap length c.self.view_is) in
    let r = rule-at c.self.inside.heads.items c.self.inside.args c.args.place c.index.result.now ns c.self.invariant l c.index.ensures c.get-args.ensures in
    let P : List (Rule ℕ) → Option ℕ → Type 0 = λ rs h. slice_get rs c.args.place ≡ Some (rule_with h ns) in
    subst (P c.args.self.now) c.in-Some.is (subst (λ (rs : List (Rule ℕ)). P rs c.index.result.now) c.self.view_is r)

pub returns-in-None : goal.returns-in-None
returns-in-None c =
    let ns = c.get-args.result.now in
    let l : c.args.place < length (rules_with c.self.inside.heads.items c.self.inside.args) = omega (arith, c.requires, ap length c.self.view_is) in
    let r = rule-at c.self.inside.heads.items c.self.inside.args c.args.place c.index.result.now ns c.self.invariant l c.index.ensures c.get-args.ensures in
    let h = arguments-at c.self.inside.heads.items c.self.inside.args c.args.place c.index.result.now ns c.self.invariant l c.index.ensures c.get-args.ensures in
    let e : length ns ≡ 2 = subst (λ (k : Option ℕ). HasArguments k ns) c.in-None.is h in
    let P : List (Rule ℕ) → Option ℕ → Type 0 = λ rs h. slice_get rs c.args.place ≡ Some (rule_with h ns) in
    subst (P c.args.self.now) c.in-None.is (subst (λ (rs : List (Rule ℕ)). P rs c.index.result.now) c.self.view_is r) ∙ ap (λ (rule : Rule ℕ). Some rule) (any-with ns e)
