use Rattle.std.proofs.Common.{◌≡◌, ℕ, List, max, arith, subst}
use Rattle.cls_base.specs.declared.rule.Rule.{Rule}
use Rattle.cls_base.specs.Columns.{rule_of}
use Rattle.cls_walk.specs.Counts.{greatest, pair_ways, pairs_of}
use Rattle.cls_walk.specs.Stages.{counts}
use Rattle.cls_walk.specs.Tables.{capped}
use Rattle.cls_walk.proofs.RunSteps.{rules-from}
use Rattle.cls_walk.proofs.lower.greatest_pair.Goals as goal

pub loop-place-preserved : goal.loop-place-preserved
loop-place-preserved c =
    let stage = c.args.stage.now in
    let most = greatest (pair_ways (counts stage) stage.size) (pairs_of c.args.rules.now) in
    let P : List (Rule ℕ) → Type 0 = λ rs. capped (max c.loop-place.best (greatest (pair_ways (counts stage) stage.size) (pairs_of rs))) ≡ capped most in
    record {
      most = c.with_pair-best.ensures _ most (subst P (rules-from c.args.rules.now c.loop-place.place (rule_of c.get-rule.result) c.get-rule.ensures) c.loop-place.invariant.most);
      small = omega arith;
    }
