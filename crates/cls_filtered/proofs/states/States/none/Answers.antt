use Rattle.std.proofs.Common.{◌*◌, List, Bool, sym, ap, ◌∙◌}
use Rattle.cls_base.specs.Limits.{max_states}
use Rattle.cls_filtered.specs.Filtered.{count_true}
use Rattle.cls_filtered.proofs.Onward.{count-none}
use Rattle.cls_filtered.proofs.states.States.none.Goals as goal

pub invariant_of-result : goal.invariant_of-result
invariant_of-result c =
    let flags = c.in_ok-flags.ensures.items_if_clones_equal (λ y e. e) in
    sym (ap (λ (fs : List Bool). count_true fs) flags ∙ count-none (c.args.nodes * max_states))

pub returns : goal.returns
returns c = λ j. record { flags = c.in_ok-flags.ensures.items_if_clones_equal (λ y e. e) j; changed = c.new-changed.ensures.items j }
