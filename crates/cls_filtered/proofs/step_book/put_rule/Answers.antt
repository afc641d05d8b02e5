use Rattle.std.proofs.Common.{◌+◌, ◌++◌, length, map, sym, ap, ◌∙◌}
use Rattle.std.proofs.lemmas.List.{append-nil}
use Rattle.cls_base.specs.Columns.{rule_of}
use Rattle.cls_filtered.specs.Stepwise.{parts_of}
use Rattle.cls_filtered.specs.StepBooks.{part_node}
use Rattle.cls_filtered.proofs.step_book.put_rule.Goals as goal

pub returns-in-Any-clause-parts : goal.returns-in-Any-clause-parts
returns-in-Any-clause-parts c =
    let old = map part_node c.args.parts.now.items in
    let k = c.args.count + length c.args.parts.now.items in
    sym (append-nil old) ∙ ap (λ r. old ++ parts_of k (rule_of r)) (sym c.in-Any.is)
