use Rattle.cls_query.proofs.Comparisons.{reads}
use Rattle.cls_query.proofs.line.CutLine.comparison.Goals as goal

pub returns-in-Ok-Some-clause-read : goal.returns-in-Ok-Some-clause-read
returns-in-Ok-Some-clause-read c =
    let sides = c.in-Some.ensures in
    let whole_lower = rw c.in-Ok-Some.field-0-is at c.in-Ok-Some.ensures.lower in
    let whole_upper = rw c.in-Ok-Some.field-0-is at c.in-Ok-Some.ensures.upper in
    let built = rw c.in-Ok-Some.field-0-is at c.in-Ok-Some.ensures.built in
    reads c.args.constructors.now c.in-Some.lower.now c.in-Some.upper.now _ _ _ built whole_lower whole_upper
    c.args.self.now.text.now sides.spelled c.requires sides.lower sides.upper
