use Rattle.std.proofs.Common.{sym, ap, ◌∙◌}
use Rattle.cls_library.specs.contracts.ending.EndingPartialEq.TheImpl.{eq-value}
use Rattle.cls_library.specs.declared.ending.Ending.{Ending}
use Rattle.cls_library.proofs.Lone.{one-leads}
use Rattle.cls_library.proofs.ending.Ending.may_lead.Goals as goal

pub returns-then-sought : goal.returns-then-sought
returns-then-sought c =
    c.eq.ensures ∙ (ap (λ (w : Ending). eq-value.it w c.args.self) c.behind.ensures
    ∙ sym (one-leads c.args.taxonomy.now c.args.count c.args.sought.ending (sym c.requires ∙ c.if-sought.true) c.args.self))
