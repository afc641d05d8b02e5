use Rattle.std.proofs.Common.{[], ℕ, List, length, get_or, ap, ◌∙◌, arith}
use Rattle.cls_filtered.proofs.Leading.{leads-many, lead-at}
use Rattle.cls_filtered.proofs.maker.Maker.put_rules.Goals as goal

pub pairs_at-pairs-requires : goal.pairs_at-pairs-requires
pairs_at-pairs-requires c =
    let leads = ap (λ (ls : List (List (ℕ × ℕ))). length ls) (c.as_slice.ensures.value ∙ c.requires.leads) in
    omega (arith, c.requires.state, leads, leads-many c.args.filter.now)

pub follow_all-requires : goal.follow_all-requires
follow_all-requires c =
    c.pairs_at-pairs.ensures
    ∙ (ap (λ (ls : List (List (ℕ × ℕ))). get_or ls c.args.state []) (c.as_slice.ensures.value ∙ c.requires.leads) ∙ lead-at c.args.filter.now c.args.state c.requires.state)
