use Rattle.std.proofs.Common.{◌≡◌, ◌++◌, ℕ, map, ap, ◌∙◌, arith}
use Rattle.std.specs.Prelude.{filter}
use Rattle.cls_base.specs.Limits.{max_states}
use Rattle.cls_filtered.specs.Filtered.{below, leads_to}
use Rattle.cls_filtered.proofs.Leading.{put-none, put-next}
use Rattle.cls_filtered.proofs.leads.put_pairs.Goals as goal

pub loop-right-init : goal.loop-right-init
loop-right-init c = put-none c.args.pairs.now

pub loop-right-preserved : goal.loop-right-preserved
loop-right-preserved c =
    put-next (leads_to c.args.filter.now c.args.state) (λ (s : ℕ). (c.args.left, s)) c.loop-right.right c.args.pairs.now c.loop-right.pairs c.put_pair.new.pairs c.loop-right.invariant c.in_ok-put_pair.ensures

pub returns : goal.returns
returns c =
    let all : c.loop-right.right ≡ max_states = omega (arith, c.loop-right-test.false, c.loop-right.auto.right-end) in
    c.loop-right.invariant
    ∙ ap (λ (n : ℕ). c.args.pairs.now ++ filter (leads_to c.args.filter.now c.args.state) (map (λ (s : ℕ). (c.args.left, s)) (below n))) all
