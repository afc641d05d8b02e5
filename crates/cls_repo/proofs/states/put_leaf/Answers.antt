use Rattle.std.proofs.Common.{◌∙◌}
use Rattle.std.proofs.lemmas.Result.{on_ok_weaker}
use Rattle.cls_filter.specs.Lines.{with_leaf}
use Rattle.cls_repo.proofs.StateNames.{number_below}
use Rattle.cls_repo.proofs.states.put_leaf.Goals as goal

pub leaf-requires : goal.leaf-requires
leaf-requires c = number_below c.args.states.now c.args.state.now c.state_in-leads.result c.state_in-leads.ensures c.requires

pub returns-clause-put : goal.returns-clause-put
returns-clause-put c =
    on_ok_weaker c.leaf.result (λ e. e ∙ (λ i. with_leaf c.args.filter.now (c.number-number.ensures i) (c.state_in-leads.ensures i))) c.leaf.ensures.ok
