use Rattle.std.proofs.Common.{◌≡◌, ℕ, ◌+◌, List, [], ◌∷◌, ◌++◌, length, map, get_or, drop, refl, ap, ◌∙◌, arith}
use Rattle.std.proofs.lemmas.List.{map_push, length_push}
use Rattle.cls_base.specs.declared.rule.Rule.{Rule}
use Rattle.cls_base.specs.declared.rule.Rule.TheVariants.{Any}
use Rattle.cls_filtered.specs.Stepwise.{last_from, parts_from}
use Rattle.cls_filtered.specs.StepBooks.{part_node, step_rule}
use Rattle.cls_filtered.proofs.StepBooks.{argument-last, argument-parts, arguments-last, arguments-parts}
use Rattle.cls_filtered.proofs.step_book.put_arguments.Goals as goal

pub next_node-requires : goal.next_node-requires
next_node-requires c = omega (arith, c.loop-argument.invariant.few, c.len.ensures, c.loop-argument.parts.ok.0)

pub loop-argument-preserved : goal.loop-argument-preserved
loop-argument-preserved c =
    let from = c.args.count + length c.args.parts.now.items in
    let k = c.args.count + length c.loop-argument.parts.items in
    let next = c.args.count + length c.push.new.self.items in
    let i = c.loop-argument.argument-index in
    let ns = c.args.args.now in
    let r = step_rule c.loop-argument.step in
    let right = get_or ns i 0 in
    let left : c.in_ok-left.left ≡ k = omega (arith, c.in_ok-left.ensures.node, c.len.ensures, c.loop-argument.parts.ok.0) in
    let longer : length c.push.new.self.items ≡ length c.loop-argument.parts.items + 1 = ap length c.in_ok-push.ensures.items ∙ length_push c.loop-argument.parts.items c.loop-argument.step in
    let after : next ≡ k + 1 = omega (arith, longer) in
    let nodes : map part_node c.push.new.self.items ≡ map part_node c.loop-argument.parts.items ++ (r ∷ []) ∷ [] = ap (map part_node) c.in_ok-push.ensures.items ∙ map_push part_node c.loop-argument.parts.items c.loop-argument.step in
    record {
      last = argument-last r k c.in_ok-left.left right next ns i (last_from (step_rule c.args.first) from ns) c.loop-argument-test.true left refl after c.loop-argument.invariant.last;
      parts = ap (λ (xs : List (List (Rule ℕ))). xs ++ parts_from (Any c.in_ok-left.left right) next (drop (i + 1) ns)) nodes ∙ argument-parts r k c.in_ok-left.left right next ns i (map part_node c.loop-argument.parts.items) (map part_node c.args.parts.now.items ++ parts_from (step_rule c.args.first) from ns) c.loop-argument-test.true left refl after c.loop-argument.invariant.parts;
      few = omega (arith, c.in_ok-left.ensures.few, c.len.ensures, c.loop-argument.parts.ok.0, longer);
    }

pub returns-clause-last : goal.returns-clause-last
returns-clause-last c =
    arguments-last (step_rule c.loop-argument.step) (c.args.count + length c.loop-argument.parts.items) c.args.args.now c.loop-argument.argument-index _ c.loop-argument-test.false c.loop-argument.invariant.last

pub returns-clause-parts : goal.returns-clause-parts
returns-clause-parts c =
    arguments-parts (step_rule c.loop-argument.step) (c.args.count + length c.loop-argument.parts.items) c.args.args.now c.loop-argument.argument-index (map part_node c.loop-argument.parts.items) _ c.loop-argument-test.false c.loop-argument.invariant.parts
