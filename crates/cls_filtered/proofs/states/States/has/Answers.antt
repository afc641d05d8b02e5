use Rattle.std.proofs.Common.{false, ap, ◌∙◌}
use Rattle.std.specs.Prelude.{slice_index_or}
use Rattle.cls_filtered.specs.States.{Known}
use Rattle.cls_filtered.proofs.states.States.has.Goals as goal

pub returns : goal.returns
returns c =
    let flags = c.as_slice.ensures.value ∙ ap (λ (s : Known). s.flags) c.self.view_is in
    c.is_up.ensures ∙ (λ j. slice_index_or (flags j) (c.pair_of.ensures j) false)
