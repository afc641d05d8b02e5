use Rattle.std.proofs.Common.{map}
use Rattle.cls_base.specs.Columns.{rule_of}
use Rattle.cls_walk.specs.FrameColumns.{head_of}
use Rattle.cls_walk.proofs.FrameRules.{heads-step}
use Rattle.cls_walk.proofs.rules.heads_in.Goals as goal

pub loop-place-preserved : goal.loop-place-preserved
loop-place-preserved c = heads-step c.args.rules.now c.loop-place.place (rule_of c.get-rule.result) (map head_of c.loop-place.heads.items) (map head_of c.add_head.new.heads.items) c.get-rule.ensures c.loop-place.invariant c.in_ok-add_head.ensures
