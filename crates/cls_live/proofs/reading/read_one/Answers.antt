use Rattle.std.proofs.Common.{◌++◌, sym, ap, ◌∙◌, append-nil}
use Rattle.cls_base.specs.Columns.{rule_of}
use Rattle.cls_live.specs.Slots.{read_rule}
use Rattle.cls_live.proofs.reading.read_one.Goals as goal

pub returns-in-Any : goal.returns-in-Any
returns-in-Any c =
    sym (append-nil c.args.rules.now)
    ∙ ap (λ r. c.args.rules.now ++ read_rule c.args.live.now c.args.goals.now (rule_of r)) (sym c.in-Any.is)
