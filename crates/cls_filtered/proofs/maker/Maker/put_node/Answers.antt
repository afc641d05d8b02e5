use Rattle.std.proofs.Common.{map}
use Rattle.std.proofs.lemmas.Result.{err_from_is_err_and}
use Rattle.cls_filtered.specs.Filtered.{rules_to}
use Rattle.cls_filtered.specs.StepBooks.{step_rule}
use Rattle.cls_filtered.proofs.FaultLaws.{many-weaker}
use Rattle.cls_filtered.proofs.Nodes.{closed-node, closed-much}
use Rattle.cls_filtered.proofs.maker.Maker.put_node.Goals as goal

pub returns-in_err-put_rules-clause-large : goal.returns-in_err-put_rules-clause-large
returns-in_err-put_rules-clause-large c =
    let rs = rules_to c.args.filter.now c.args.self.now.kept (map step_rule c.args.steps.now) c.args.state in
    let p = err_from_is_err_and c.from_residual.result c.from_residual.ensures.1 in
    rw (p.1, p.2) (many-weaker _ _ _ (closed-much rs c.new-making.result c.args.draft.now.room c.new-making.ensures.room) c.in_err-put_rules.ensures.large)

pub returns-clause-ok : goal.returns-clause-ok
returns-clause-ok c =
    closed-node (rules_to c.args.filter.now c.args.self.now.kept (map step_rule c.args.steps.now) c.args.state) c.new-making.result c.put_rules.new.making c.args.draft.now.nodes.items c.close.new.self.nodes.items c.args.draft.now.room c.close.new.self.room c.new-making.ensures.rules c.new-making.ensures.room c.in_ok-put_rules.ensures.ok c.in_ok-close.ensures.nodes c.in_ok-close.ensures.room
