use Rattle.std.proofs.Common.{ℕ, List, true, false, subst}
use Rattle.cls_base.specs.declared.rule.Rule.{Rule}
use Rattle.cls_base.specs.Columns.{rule_of}
use Rattle.cls_walk.specs.Counts.{heads_of, runs}
use Rattle.cls_walk.specs.Runs.{ComesTo}
use Rattle.cls_walk.specs.Stages.{ways_if}
use Rattle.cls_walk.proofs.RunSteps.{rules-from}
use Rattle.cls_walk.proofs.run.runs_of.Goals as goal

pub loop-place-preserved : goal.loop-place-preserved
loop-place-preserved c =
    let f = ways_if c.args.stage.now false in
    let g = ways_if c.args.stage.now true in
    let whole = heads_of c.args.rules.now in
    let P : List (Rule ℕ) → Type 0 = λ rs. ComesTo f (heads_of rs) (runs f whole) c.loop-place.runs.all in
    let Q : List (Rule ℕ) → Type 0 = λ rs. ComesTo g (heads_of rs) (runs g whole) c.loop-place.runs.alone in
    let from = rules-from c.args.rules.now c.loop-place.place (rule_of c.get-rule.result) c.get-rule.ensures in
    record {
      all = c.in_ok-runs.ensures.all _ (runs f whole) (subst P from c.loop-place.invariant.all);
      alone = c.in_ok-runs.ensures.alone _ (runs g whole) (subst Q from c.loop-place.invariant.alone);
    }
