use Rattle.std.proofs.Common.{sym, ap, ◌∙◌}
use Rattle.cls_filtered.specs.States.{Known}
use Rattle.cls_filtered.proofs.Onward.{popped-less}
use Rattle.cls_filtered.proofs.states.States.take_changed.Goals as goal

pub returns-clause-flags : goal.returns-clause-flags
returns-clause-flags c = ap (λ (s : Known). s.flags) c.self.view_is

pub returns-clause-less : goal.returns-clause-less
returns-clause-less c =
    popped-less c.pop.result c.args.self.now.changed c.pop.new.self.items (sym (ap (λ (s : Known). s.changed) c.self.view_is) ∙ c.pop.ensures.items)
