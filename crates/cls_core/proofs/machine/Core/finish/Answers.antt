use Rattle.std.proofs.Common.{refl, ap, sym, subst, ◌∙◌}
use Rattle.cls_core.specs.Machine.{EachFiled}
use Rattle.cls_core.proofs.machine.Core.finish.Goals as goal

pub returns-then-not-all_filed-clause-unfinished : goal.returns-then-not-all_filed-clause-unfinished
returns-then-not-all_filed-clause-unfinished g c =
    let open_row = c.all_filed.ensures.unfiled c.if-not-all_filed.true in
    (refl, λ f. open_row.3 (subst EachFiled (ap (λ v. v.rows.states) (sym c.self.view_is) ∙ sym c.as_slice.ensures.value) f open_row.0 open_row.1 open_row.2))
