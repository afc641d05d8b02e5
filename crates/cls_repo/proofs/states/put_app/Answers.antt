use Rattle.std.proofs.Common.{◌∙◌}
use Rattle.cls_filter.specs.Lines.{with_app}
use Rattle.cls_repo.proofs.StateNames.{number_below, third_below}
use Rattle.cls_repo.proofs.states.put_app.Goals as goal

pub app-requires : goal.app-requires
app-requires c =
    number_below c.args.states.now c.args.state.now c.state_in-leads.result c.state_in-leads.ensures (third_below c.args.states.now c.args.left.now c.args.right.now c.args.state.now c.requires)

pub returns : goal.returns
returns c = c.app.ensures ∙ (λ i. with_app c.args.filter.now (c.state_in-first.ensures i) (c.state_in-second.ensures i) (c.state_in-leads.ensures i))
