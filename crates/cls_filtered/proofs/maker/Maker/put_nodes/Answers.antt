use Rattle.std.proofs.Common.{◌≡◌, ℕ, map, subst, arith}
use Rattle.std.proofs.lemmas.Result.{err_from_is_err_and}
use Rattle.cls_base.specs.Limits.{max_states}
use Rattle.cls_filtered.specs.StepBooks.{step_rule}
use Rattle.cls_filtered.specs.Makings.{AreMade}
use Rattle.cls_filtered.proofs.FaultLaws.{many-weaker}
use Rattle.cls_filtered.proofs.Makings.{nodes-none}
use Rattle.cls_filtered.proofs.Nodes.{kept_below, kept-more, kept-much}
use Rattle.cls_filtered.proofs.maker.Maker.put_nodes.Goals as goal

pub loop-state-init : goal.loop-state-init
loop-state-init c = nodes-none c.args.draft.now.nodes.items c.args.draft.now.room

pub loop-state-preserved : goal.loop-state-preserved
loop-state-preserved c =
    kept-more c.args.filter.now c.args.self.now.kept c.args.node (map step_rule c.args.steps.now) c.loop-state.state c.args.draft.now.nodes.items c.loop-state.draft.nodes.items c.put_kept.new.draft.nodes.items c.args.draft.now.room c.loop-state.draft.room c.put_kept.new.draft.room c.loop-state.invariant c.in_ok-put_kept.ensures.ok

pub returns-in_err-put_kept-clause-large : goal.returns-in_err-put_kept-clause-large
returns-in_err-put_kept-clause-large c =
    let p = err_from_is_err_and c.from_residual.result c.from_residual.ensures.1 in
    rw (p.1, p.2) (many-weaker _ _ _
    (kept-much c.args.filter.now c.args.self.now.kept c.args.node (map step_rule c.args.steps.now) c.loop-state.state c.args.draft.now.nodes.items c.loop-state.draft.nodes.items c.args.draft.now.room c.loop-state.draft.room (omega (arith, c.loop-state-test.true)) c.loop-state.invariant)
    c.in_err-put_kept.ensures.large)

pub returns-clause-ok : goal.returns-clause-ok
returns-clause-ok c =
    let all : c.loop-state.state ≡ max_states = omega (arith, c.loop-state-test.false, c.loop-state.auto.state-end) in
    subst (λ (n : ℕ). AreMade (kept_below c.args.filter.now c.args.self.now.kept c.args.node (map step_rule c.args.steps.now) n) c.args.draft.now.nodes.items c.loop-state.draft.nodes.items c.args.draft.now.room c.loop-state.draft.room) all c.loop-state.invariant
