use Rattle.std.proofs.Common.{◌≡◌, ◌-◌, ◌<◌, ◌≤◌, [], ℕ, List, length, map, get_or, sym, ap, subst, ◌∙◌, arith}
use Rattle.cls_base.specs.declared.rule.Rule.{Rule}
use Rattle.cls_base.specs.Cuts.{cut, AreEnds}
use Rattle.cls_base.specs.Languages.{rules_at}
use Rattle.cls_filtered.specs.declared.step.Step.{Step}
use Rattle.cls_filtered.specs.StepBooks.{step_rule, part_node}
use Rattle.cls_filtered.proofs.StepBooks.{step_book-length, lasts-at, parts-at}
use Rattle.cls_filtered.proofs.step_book.StepBook.steps.Goals as goal

pub last_steps-requires-clause-ends : goal.last_steps-requires-clause-ends
last_steps-requires-clause-ends c =
    let many : length c.self.inside.lasts.items ≡ length c.as_slice-lasts.result.now = ap (λ (xs : List Step). length xs) (sym c.as_slice-lasts.ensures.value) in
    subst (λ (es : List ℕ). AreEnds 0 (length c.as_slice-lasts.result.now) es) (sym c.as_slice-ends.ensures.value)
    (subst (λ (n : ℕ). AreEnds 0 n c.self.inside.ends.items) many c.self.invariant.0)

pub returns-then-place-nodes : goal.returns-then-place-nodes
returns-then-place-nodes c =
    let lasts = c.self.inside.lasts.items in
    let ends = c.self.inside.ends.items in
    let within : c.args.node < length ends = omega (arith, c.if-place-nodes.true, ap length c.as_slice-ends.ensures.value) in
    let read : c.last_steps.result.now ≡ get_or (cut lasts 0 ends) c.args.node [] = c.last_steps.ensures ∙ (λ j. get_or (cut (c.as_slice-lasts.ensures.value j) 0 (c.as_slice-ends.ensures.value j)) c.args.node []) in
    ap (map step_rule) read
    ∙ (lasts-at lasts ends c.self.inside.parts.items c.args.node within ∙ ap (λ (b : List (List (Rule ℕ))). rules_at b c.args.node) c.self.view_is)

pub part_steps-requires : goal.part_steps-requires
part_steps-requires c =
    let whole = step_book-length c.self.inside.lasts.items c.self.inside.ends.items c.self.inside.parts.items in
    let nodes = ap length c.as_slice-ends.ensures.value in
    let parts = ap (λ (xs : List Step). length xs) c.as_slice-parts.ensures.value in
    omega (arith, c.requires, ap length c.self.view_is, whole, nodes, parts, c.if-place-nodes.false)

pub returns : goal.returns
returns c =
    let lasts = c.self.inside.lasts.items in
    let ends = c.self.inside.ends.items in
    let parts = c.self.inside.parts.items in
    let nodes = ap length c.as_slice-ends.ensures.value in
    let past : length ends ≤ c.args.node = omega (arith, c.if-place-nodes.false, nodes) in
    let k = c.args.node - length c.as_slice-ends.result.now in
    let is : k ≡ c.args.node - length ends = ap (λ (n : ℕ). c.args.node - n) nodes in
    c.part_steps.ensures
    ∙ (ap (λ (xs : List Step). rules_at (map part_node xs) k) c.as_slice-parts.ensures.value
    ∙ (parts-at lasts ends parts c.args.node k past is ∙ ap (λ (b : List (List (Rule ℕ))). rules_at b c.args.node) c.self.view_is))
