use Rattle.std.proofs.Common.{ap, ◌∙◌, map}
use Rattle.cls_term.specs.Banks.{at}
use Rattle.cls_enum.proofs.Planning.{take-map, take-least}
use Rattle.cls_enum.proofs.paging.first_due.Goals as goal

pub returns-clause-terms : goal.returns-clause-terms
returns-clause-terms c =
    c.in_ok-terms.ensures ∙ ap (map (at c.args.bank.now)) (take-least c.min-listed.result c.args.wanted c.args.due.now c.min-listed.ensures) ∙ take-map (at c.args.bank.now) c.args.wanted c.args.due.now
