use Rattle.std.proofs.Common.{arith}
use Rattle.cls_base.specs.Ty.{type_of}
use Rattle.cls_path.specs.Paths.{listed}
use Rattle.cls_library.specs.Libraries.{below_in, variances_in}
use Rattle.cls_library.proofs.Splitting.{arity-form}
use Rattle.cls_library.proofs.gather.put_instance.Goals as goal

pub returns-then-arity-eq-TOO_MANY-clause-refused : goal.returns-then-arity-eq-TOO_MANY-clause-refused
returns-then-arity-eq-TOO_MANY-clause-refused c =
    let same = arity-form (below_in c.args.taxonomy.now) (variances_in c.args.taxonomy.now) (type_of c.args.ty.now) (listed c.in_ok-nf.nf) c.in_ok-nf.ensures.form in
    let capped = c.arity.ensures in
    let many = c.if-arity-eq-TOO_MANY.true in
    omega arith

pub returns-then-weight-gt-MAX_LIBRARY_WEIGHT-clause-refused : goal.returns-then-weight-gt-MAX_LIBRARY_WEIGHT-clause-refused
returns-then-weight-gt-MAX_LIBRARY_WEIGHT-clause-refused c =
    let same = arity-form (below_in c.args.taxonomy.now) (variances_in c.args.taxonomy.now) (type_of c.args.ty.now) (listed c.in_ok-nf.nf) c.in_ok-nf.ensures.form in
    let capped = c.arity.ensures in
    let few = c.if-arity-eq-TOO_MANY.false in
    let heavy = c.if-weight-gt-MAX_LIBRARY_WEIGHT.true in
    let narrow = c.requires.small.low_spread in
    let s = c.spread.ensures in
    (omega arith, omega arith)

pub returns-clause-accepted : goal.returns-clause-accepted
returns-clause-accepted c =
    let same = arity-form (below_in c.args.taxonomy.now) (variances_in c.args.taxonomy.now) (type_of c.args.ty.now) (listed c.in_ok-nf.nf) c.in_ok-nf.ensures.form in
    let capped = c.arity.ensures in
    let few = c.if-arity-eq-TOO_MANY.false in
    let light = c.if-weight-gt-MAX_LIBRARY_WEIGHT.false in
    let narrow = c.requires.small.low_spread in
    let s = c.spread.ensures in
    record { small = c.requires.small; arity = omega arith; light = omega arith }
