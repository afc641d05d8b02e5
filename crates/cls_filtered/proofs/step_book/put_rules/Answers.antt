use Rattle.std.proofs.Common.{◌≡◌, ◌+◌, ◌++◌, ◌∷◌, [], ℕ, List, length, map, drop, ap, ◌∙◌, arith}
use Rattle.std.proofs.lemmas.List.{map_push}
use Rattle.cls_base.specs.declared.rule.Rule.{Rule}
use Rattle.cls_base.specs.Columns.{rule_of}
use Rattle.cls_filtered.specs.Stepwise.{lasts_in, part_count}
use Rattle.cls_filtered.specs.StepBooks.{step_rule, part_node}
use Rattle.cls_filtered.proofs.StepBooks.{rule-last, rule-parts, rules-lasts, rules-parts, parts-after}
use Rattle.cls_filtered.proofs.step_book.put_rules.Goals as goal

pub loop-place-preserved : goal.loop-place-preserved
loop-place-preserved c =
    let rs = c.args.rules.now in
    let i = c.loop-place.place in
    let old = c.loop-place.parts.items in
    let new = c.put_rule.new.parts.items in
    let k = c.args.count + length old in
    let r = rule_of c.get.result in
    let step = c.in_ok-last.last in
    let size = parts-after old new k r c.in_ok-last.ensures.parts in
    let next : c.args.count + length new ≡ k + part_count r = omega (arith, size) in
    let nodes : map step_rule c.push.new.self.items ≡ map step_rule c.loop-place.lasts.items ++ step_rule step ∷ [] =
    ap (map step_rule) c.in_ok-push.ensures.items ∙ map_push step_rule c.loop-place.lasts.items step in
    record {
      lasts = ap (λ (xs : List (Rule ℕ)). xs ++ lasts_in (c.args.count + length new) (drop (i + 1) rs)) nodes
          ∙ rule-last k (c.args.count + length new) rs i r (step_rule step) (map step_rule c.loop-place.lasts.items) _ c.get.ensures c.in_ok-last.ensures.last next c.loop-place.invariant.lasts;
      parts = rule-parts k (c.args.count + length new) rs i r (map part_node old) (map part_node new) _ c.get.ensures c.in_ok-last.ensures.parts next c.loop-place.invariant.parts;
      few = c.in_ok-last.ensures.few;
    }

pub returns-clause-lasts : goal.returns-clause-lasts
returns-clause-lasts c =
    rules-lasts (c.args.count + length c.loop-place.parts.items) c.args.rules.now c.loop-place.place (map step_rule c.loop-place.lasts.items) _ (omega (arith, c.loop-place-test.false, c.len-place-end.ensures)) c.loop-place.invariant.lasts

pub returns-clause-parts : goal.returns-clause-parts
returns-clause-parts c =
    rules-parts (c.args.count + length c.loop-place.parts.items) c.args.rules.now c.loop-place.place (map part_node c.loop-place.parts.items) _ (omega (arith, c.loop-place-test.false, c.len-place-end.ensures)) c.loop-place.invariant.parts
