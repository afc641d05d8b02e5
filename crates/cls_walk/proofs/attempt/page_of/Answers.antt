use Rattle.std.proofs.Common.{ap, sym, take, ◌∙◌}
use Rattle.cls_base.specs.Terms.{code_of}
use Rattle.cls_enum.proofs.Planning.{take-map}
use Rattle.cls_walk.proofs.attempt.page_of.Goals as goal

pub from_lists-requires : goal.from_lists-requires
from_lists-requires c =
    let n = c.args.wanted in
    let es = c.requires.0 in
    (take n es, c.truncate.ensures ∙ ap (take n) c.requires.1 ∙ sym (take-map code_of n es))

pub returns-clause-terms : goal.returns-clause-terms
returns-clause-terms c = λ es p.
    let n = c.args.wanted in
    c.from_lists.ensures (take n es) (c.truncate.ensures ∙ ap (take n) p ∙ sym (take-map code_of n es))
