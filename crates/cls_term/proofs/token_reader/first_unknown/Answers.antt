use Rattle.std.proofs.Common.{sym, ◌∙◌}
use Rattle.cls_term.proofs.TermFaults.{first_place}
use Rattle.cls_term.proofs.token_reader.first_unknown.Goals as goal

pub returns : goal.returns
returns c = c.first_absent.ensures ∙ sym (first_place c.args.components.now c.args.tokens.now)
