use Rattle.std.proofs.Common.{[], ◌∙◌}
use Rattle.std.proofs.lemmas.List.{get_or_default}
use Rattle.cls_filtered.proofs.leads.pairs_at.Goals as goal

pub returns : goal.returns
returns c = c.as_slice.ensures ∙ (c.index-leads-state.is ∙ get_or_default c.args.leads.now c.args.state c.index-leads-state.result [] c.requires)
