use Rattle.std.proofs.Common.{◌≡◌, ℕ, map, ap, ◌∙◌, arith}
use Rattle.cls_base.specs.Limits.{max_states}
use Rattle.cls_filtered.specs.Filtered.{below, pairs_to}
use Rattle.cls_filtered.proofs.Leading.{map-next}
use Rattle.cls_filtered.proofs.leads.leads_of.Goals as goal

pub loop-state-init : goal.loop-state-init
loop-state-init c = c.in_ok-leads.ensures.items

pub loop-state-preserved : goal.loop-state-preserved
loop-state-preserved c =
    map-next (pairs_to c.args.filter.now) c.loop-state.state c.loop-state.leads.items c.push.new.self.items c.in_ok-pairs.pairs c.loop-state.invariant c.in_ok-pairs.ensures c.in_ok-push.ensures.items

pub returns : goal.returns
returns c =
    let all : c.loop-state.state ≡ max_states = omega (arith, c.loop-state-test.false, c.loop-state.auto.state-end) in
    c.loop-state.invariant ∙ ap (λ (n : ℕ). map (pairs_to c.args.filter.now) (below n)) all
