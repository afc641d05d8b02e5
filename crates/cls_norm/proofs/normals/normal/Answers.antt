use Rattle.cls_base.specs.Ty.{type_of}
use Rattle.cls_base.specs.Taxa.{Below}
use Rattle.cls_path.specs.Paths.{listed}
use Rattle.cls_path.proofs.Equivalence.{to_form, from_form}
use Rattle.cls_norm.proofs.normals.normal.Goals as goal

pub returns-clause-below : goal.returns-clause-below
returns-clause-below g c =
    let b = Below (g.T.Taxa.is_below c.args.taxa.now) in
    let v = g.T.Taxa.variance_of_name c.args.taxa.now in
    let met = g.met.T.Taxa in
    from_form b v (met.reflexive c.args.taxa.now) (met.transitive c.args.taxa.now) (type_of c.args.ty.now) (listed c.in_ok-nf.nf) c.in_ok-nf.ensures

pub returns-clause-above : goal.returns-clause-above
returns-clause-above g c =
    let b = Below (g.T.Taxa.is_below c.args.taxa.now) in
    let v = g.T.Taxa.variance_of_name c.args.taxa.now in
    let met = g.met.T.Taxa in
    to_form b v (met.reflexive c.args.taxa.now) (met.transitive c.args.taxa.now) (type_of c.args.ty.now) (listed c.in_ok-nf.nf) c.in_ok-nf.ensures
