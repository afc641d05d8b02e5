use Rattle.cls_lexer.specs.Words.{words}
use Rattle.cls_query.proofs.Comparisons.{both_built}
use Rattle.cls_query.proofs.comparison.measured_types.Goals as goal

pub returns-in-Some-2-clause-built : goal.returns-in-Some-2-clause-built
returns-in-Some-2-clause-built c =
    let lower = rw c.in-Some.is at c.in_ok-lower.ensures in
    let upper = rw c.in-Some-2.is at c.in_ok-upper.ensures in
    both_built c.args.constructors.now c.read_measured_type.new.constructors c.read_measured_type-2.new.constructors (words c.args.lower.now) (words c.args.upper.now) _ _
    (record { whole = lower.whole; closed = lower.closed }) lower.constructors upper.constructors lower.ty upper.ty
