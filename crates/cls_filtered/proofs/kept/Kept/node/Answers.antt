use Rattle.std.proofs.Common.{◌+◌, ℕ, List, Bool, false, cond, Some, None, take, sym, ap, subst, ◌∙◌}
use Rattle.std.specs.Prelude.{slice_index_or}
use Rattle.cls_filtered.specs.Filtered.{count_true}
use Rattle.cls_filtered.specs.Makings.{AreNodes, kept_node}
use Rattle.cls_filtered.proofs.Keeping.{kept-number}
use Rattle.cls_filtered.proofs.kept.Kept.node.Goals as goal

pub number_at-requires : goal.number_at-requires
number_at-requires c =
    subst (λ (fs : List Bool). AreNodes fs c.as_slice-numbers.result.now) (sym c.as_slice-flags.ensures.value)
    (subst (λ (ns : List ℕ). AreNodes c.self.inside.flags.items ns) (sym c.as_slice-numbers.ensures.value) c.self.invariant)

pub returns : goal.returns
returns c =
    let flags = c.as_slice-flags.ensures.value in
    let pair = c.pair_of.ensures in
    c.number_at.ensures
    ∙ ((λ j. cond (slice_index_or (flags j) (pair j) false) (Some (count_true (take (pair j) (flags j)) + 1)) None)
    ∙ (kept-number c.self.inside.flags.items c.args.node c.args.state ∙ ap (λ (fs : List Bool). kept_node fs c.args.node c.args.state) c.self.view_is))
