use Rattle.std.proofs.Common.{◌≡◌, ℕ, ap, ◌∙◌, arith}
use Rattle.std.specs.Prelude.{filter}
use Rattle.std.specs.List.{flat_map}
use Rattle.cls_base.specs.Limits.{max_states}
use Rattle.cls_filtered.specs.Filtered.{below, leads_to, left_pairs}
use Rattle.cls_filtered.proofs.Leading.{flats-next}
use Rattle.cls_filtered.proofs.leads.pairs_to.Goals as goal

pub loop-left-init : goal.loop-left-init
loop-left-init c = c.new-pairs.ensures

pub loop-left-preserved : goal.loop-left-preserved
loop-left-preserved c =
    flats-next (leads_to c.args.filter.now c.args.state) left_pairs c.loop-left.left c.loop-left.pairs c.put_pairs.new.pairs c.loop-left.invariant c.in_ok-put_pairs.ensures

pub returns : goal.returns
returns c =
    let all : c.loop-left.left ≡ max_states = omega (arith, c.loop-left-test.false, c.loop-left.auto.left-end) in
    c.loop-left.invariant ∙ ap (λ (n : ℕ). filter (leads_to c.args.filter.now c.args.state) (flat_map left_pairs (below n))) all
