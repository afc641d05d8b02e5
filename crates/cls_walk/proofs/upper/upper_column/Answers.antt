use Rattle.std.proofs.Common.{ℕ, List, arith, refl, ap, length, ◌∙◌}
use Rattle.std.proofs.lemmas.List.{length_push}
use Rattle.cls_base.specs.declared.rule.Rule.{Rule}
use Rattle.cls_base.specs.Languages.{rules_at}
use Rattle.cls_walk.specs.Counts.{all_ways}
use Rattle.cls_walk.specs.Stages.{counts, costs}
use Rattle.cls_walk.specs.Tables.{capped}
use Rattle.cls_walk.proofs.Columns.{column-none, column-push, column-whole}
use Rattle.cls_walk.proofs.upper.upper_column.Goals as goal

pub loop-node-preserved : goal.loop-node-preserved
loop-node-preserved g c =
    let book = g.B.RuleBook.book c.args.book.now in
    let stage = c.args.stage.now in
    let f : List (Rule ℕ) → ℕ = all_ways (counts stage) (costs stage) stage.size in
    let x = c.in_ok-all_ways_of.field-0 in
    record {
      column = column-push (λ n. capped (f (rules_at book n))) c.loop-node.column.items c.push.new.self.items x c.loop-node.node c.in_ok-push.ensures.items c.loop-node.invariant.long c.loop-node.invariant.column
          (c.in_ok-all_ways_of.ensures ∙ ap (λ (rs : List (Rule ℕ)). capped (f rs)) c.rules.ensures.rules);
      long = omega (arith, ap length c.in_ok-push.ensures.items, length_push c.loop-node.column.items x, c.loop-node.invariant.long);
    }

pub returns : goal.returns
returns g c =
    let book = g.B.RuleBook.book c.args.book.now in
    let stage = c.args.stage.now in
    let f : List (Rule ℕ) → ℕ = all_ways (counts stage) (costs stage) stage.size in
    column-whole f book c.loop-node.column.items c.loop-node.node refl c.loop-node.invariant.long (omega (arith, c.loop-node-test.false, c.loop-node.auto.node-end, c.count-node-end.ensures.count)) c.loop-node.invariant.column

pub returns-then-stage-eq0 : goal.returns-then-stage-eq0
returns-then-stage-eq0 g c =
    let book = g.B.RuleBook.book c.args.book.now in
    let stage = c.args.stage.now in
    column-none (counts stage) (costs stage) stage.size book c.new-column.result.items c.requires c.if-stage-eq0.true c.new-column.ensures.items
