use Rattle.std.proofs.Common.{List, ap, ◌++◌}
use Rattle.std.specs.Prelude.{map}
use Rattle.cls_expand.specs.declared.spine.Spine.{Spine}
use Rattle.cls_expand.specs.Answers.{rule_of}
use Rattle.cls_expand.specs.Making.{rule_of_spine}
use Rattle.cls_expand.proofs.Places.{heads_step, heads_done}
use Rattle.cls_expand.proofs.cover_rules.add_spines.Goals as goal

pub loop-spine-init : goal.loop-spine-init
loop-spine-init c = ap (λ (ss : List Spine). map rule_of c.args.rules.now ++ map rule_of_spine ss) c.into_iter-spine-iterator.ensures.into_iter_gives.0

pub loop-spine-preserved : goal.loop-spine-preserved
loop-spine-preserved c = heads_step c.loop-spine.rules c.push_head.new.self c.loop-spine.spine-iterator c.next.new.self (map rule_of c.args.rules.now ++ map rule_of_spine c.args.spines.keys) c.in-Some.spine c.in_ok-push_head.ensures.ok c.in-Some.ensures.steps c.loop-spine.invariant

pub returns : goal.returns
returns c = heads_done c.loop-spine.rules c.loop-spine.spine-iterator _ c.in-None.ensures.steps.0 c.loop-spine.invariant
