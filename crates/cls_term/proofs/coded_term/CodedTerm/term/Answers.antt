use Rattle.std.proofs.Common.{◌∙◌}
use Rattle.cls_term.proofs.Codes.{code_of-one_to_one}
use Rattle.cls_term.proofs.coded_term.CodedTerm.term.Goals as goal

pub returns : goal.returns
returns c = code_of-one_to_one c.in_ok-decode.field-0 c.args.self.now (c.in_ok-decode.ensures ∙ c.code.ensures)
