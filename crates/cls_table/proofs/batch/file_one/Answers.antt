use Rattle.std.proofs.Common.{◌∙◌, ◌++◌, ◌∷◌, [], ap}
use Rattle.cls_table.specs.Seen.{FiledSeen}
use Rattle.cls_table.proofs.Filing.{step-filed, step-past, step-left}
use Rattle.cls_table.proofs.batch.file_one.Goals as goal

pub returns-in-Ok-Kept-clause-files : goal.returns-in-Ok-Kept-clause-files
returns-in-Ok-Kept-clause-files g c =
    let o = rw c.in-Ok-Kept.field-0-is at c.in-Ok-Kept.ensures.outcome in
    step-filed g.E.Goal.PartialEq.eq c.args.table.now c.file.new.self c.args.filed c.args.others.now.items o.1 o.2 o.3

pub returns-in-Ok-TooLarge-clause-files : goal.returns-in-Ok-TooLarge-clause-files
returns-in-Ok-TooLarge-clause-files g c =
    let o = rw c.in-Ok-TooLarge.field-0-is at c.in-Ok-TooLarge.ensures.outcome in
    step-past g.E.Goal.PartialEq.eq c.args.table.now c.file.new.self c.args.filed c.args.others.now.items o.0 o.1 o.2

pub returns-in_default-clause-files : goal.returns-in_default-clause-files
returns-in_default-clause-files g c =
    let o = rw c.in-Ok-NotHeld.field-0-is at c.in-Ok-NotHeld.ensures.outcome in
    let others = c.args.others.now.items in
    step-left g.E.Goal.PartialEq.eq c.args.table.now c.file.new.self c.args.filed others o.1 o.2 _
    (c.in_default.ensures.items ∙ ap (λ (f : FiledSeen g.row.E-Tag.Denot g.row.E-Goal.Denot). others ++ f ∷ []) o.0)
