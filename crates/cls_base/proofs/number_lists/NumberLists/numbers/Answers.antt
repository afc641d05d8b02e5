use Rattle.std.proofs.Common.{sym, ap, ◌∙◌}
use Rattle.std.specs.List.{concat}
use Rattle.cls_base.proofs.Refilling.{concat-cut}
use Rattle.cls_base.proofs.number_lists.NumberLists.numbers.Goals as goal

pub returns : goal.returns
returns c = c.as_slice.ensures.value ∙ (sym (concat-cut c.self.inside.numbers.items c.self.inside.ends.items c.self.invariant) ∙ ap concat c.self.view_is)
