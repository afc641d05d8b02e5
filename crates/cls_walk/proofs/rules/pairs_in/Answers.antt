use Rattle.std.proofs.Common.{map}
use Rattle.cls_base.specs.Columns.{rule_of}
use Rattle.cls_walk.specs.FrameColumns.{pair_of}
use Rattle.cls_walk.proofs.FrameRules.{pairs-step}
use Rattle.cls_walk.proofs.rules.pairs_in.Goals as goal

pub loop-place-preserved : goal.loop-place-preserved
loop-place-preserved c = pairs-step c.args.rules.now c.loop-place.place (rule_of c.get-rule.result) (map pair_of c.loop-place.pairs.items) (map pair_of c.add_pair.new.pairs.items) c.get-rule.ensures c.loop-place.invariant c.in_ok-add_pair.ensures
