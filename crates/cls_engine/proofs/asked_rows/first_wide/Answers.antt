use Rattle.std.proofs.Common.{Some, sym, ap, ◌∙◌}
use Rattle.cls_engine.proofs.asked_rows.first_wide.Goals as goal

pub returns-in_ok-copy-in-Some : goal.returns-in_ok-copy-in-Some
returns-in_ok-copy-in-Some c =
    ap Some c.in_ok-copy-in-Some.ensures ∙ (sym c.goal.ensures ∙ sym c.in-Some.ensures.wide)
