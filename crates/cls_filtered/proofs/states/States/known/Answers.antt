use Rattle.std.proofs.Common.{ap, ◌∙◌}
use Rattle.cls_filtered.specs.Filtered.{count_true}
use Rattle.cls_filtered.specs.States.{Known}
use Rattle.cls_filtered.proofs.states.States.known.Goals as goal

pub returns : goal.returns
returns c = c.self.invariant ∙ ap (λ (s : Known). count_true s.flags) c.self.view_is
