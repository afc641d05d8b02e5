use Rattle.std.proofs.Common.{◌∙◌}
use Rattle.cls_callers.specs.Known.{answered_rows}
use Rattle.cls_callers.proofs.KnownRows.{rows-again}
use Rattle.cls_callers.proofs.known.Known.new.Goals as goal

pub returns : goal.returns
returns g c =
    (λ i. answered_rows (c.in_ok-goals.ensures.goals i) (c.in_ok-goals.ensures.answers i)) ∙ rows-again c.args.rows
