use Rattle.std.proofs.Common.{◌≡◌, ℕ, map, subst, arith}
use Rattle.std.specs.Prelude.{filter}
use Rattle.std.specs.List.{flat_map}
use Rattle.std.proofs.lemmas.Result.{err_from_is_err_and}
use Rattle.cls_base.specs.Limits.{max_states}
use Rattle.cls_filter.specs.Automata.{is_accepting}
use Rattle.cls_filtered.specs.Filtered.{below, rules_to, start_rules}
use Rattle.cls_filtered.specs.StepBooks.{step_rule}
use Rattle.cls_filtered.specs.Makings.{IsMade}
use Rattle.cls_filtered.proofs.FaultLaws.{many-weaker}
use Rattle.cls_filtered.proofs.Makings.{made-none, made-start, much-start}
use Rattle.cls_filtered.proofs.Nodes.{closed-node, closed-much}
use Rattle.cls_filtered.proofs.maker.Maker.put_start.Goals as goal

pub loop-state-init : goal.loop-state-init
loop-state-init c = made-none c.new-making.result

pub loop-state-preserved : goal.loop-state-preserved
loop-state-preserved c =
    made-start c.args.filter.now c.args.self.now.kept (map step_rule c.args.steps.now) c.loop-state.state c.new-making.result c.loop-state.making c.put_accepting.new.making c.loop-state.invariant c.in_ok-put_accepting.ensures.ok

pub returns-in_err-put_accepting-clause-large : goal.returns-in_err-put_accepting-clause-large
returns-in_err-put_accepting-clause-large c =
    let rs = map step_rule c.args.steps.now in
    let p = err_from_is_err_and c.from_residual.result c.from_residual.ensures.1 in
    rw (p.1, p.2) (many-weaker _ _ _
    (λ much. closed-much (start_rules c.args.filter.now c.args.self.now.kept rs) c.new-making.result c.args.draft.now.room c.new-making.ensures.room
    (much-start c.args.filter.now c.args.self.now.kept rs c.loop-state.state c.new-making.result c.loop-state.making (omega (arith, c.loop-state-test.true)) c.loop-state.invariant much))
    c.in_err-put_accepting.ensures.large)

pub returns-clause-ok : goal.returns-clause-ok
returns-clause-ok c =
    let rs = map step_rule c.args.steps.now in
    let all : c.loop-state.state ≡ max_states = omega (arith, c.loop-state-test.false, c.loop-state.auto.state-end) in
    let whole : IsMade (start_rules c.args.filter.now c.args.self.now.kept rs) c.new-making.result c.loop-state.making =
    subst (λ (n : ℕ). IsMade (flat_map (rules_to c.args.filter.now c.args.self.now.kept rs) (filter (is_accepting c.args.filter.now) (below n))) c.new-making.result c.loop-state.making) all c.loop-state.invariant in
    closed-node (start_rules c.args.filter.now c.args.self.now.kept rs) c.new-making.result c.loop-state.making c.args.draft.now.nodes.items c.close.new.self.nodes.items c.args.draft.now.room c.close.new.self.room c.new-making.ensures.rules c.new-making.ensures.room whole c.in_ok-close.ensures.nodes c.in_ok-close.ensures.room
