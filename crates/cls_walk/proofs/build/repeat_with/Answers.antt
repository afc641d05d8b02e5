use Rattle.std.proofs.Common.{arith, ap, sym, ◌∙◌}
use Rattle.cls_base.specs.Columns.{rule_of}
use Rattle.cls_walk.proofs.Building.{repeat-any, repeat-rule}
use Rattle.cls_walk.proofs.build.repeat_with.Goals as goal

pub returns-in-Head : goal.returns-in-Head
returns-in-Head c = λ rs h. repeat-rule c.args.node c.in-Head.component c.in-Head.args.now c.args.repeat rs (rule_of c.args.rule) (ap rule_of c.in-Head.is) h

pub returns-else-left-node : goal.returns-else-left-node
returns-else-left-node c = λ rs h. repeat-any c.args.node c.in-Any.left c.in-Any.right c.args.repeat rs (rule_of c.args.rule) (ap rule_of c.in-Any.is) (omega (arith, c.if-left-node.false)) (sym c.is_some.ensures ∙ c.if-is_some.false) h
