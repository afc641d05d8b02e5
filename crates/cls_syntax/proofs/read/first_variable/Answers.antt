use Rattle.std.proofs.Common.{sym, ◌∙◌}
use Rattle.cls_syntax.proofs.Dollars.{first_dollar}
use Rattle.cls_syntax.proofs.read.first_variable.Goals as goal

pub returns : goal.returns
returns c = c.first_dollar.ensures ∙ sym (first_dollar c.args.tokens.now)
