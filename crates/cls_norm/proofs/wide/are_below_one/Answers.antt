use Rattle.std.proofs.Common.{refl}
use Rattle.cls_base.specs.Ty.{type_of}
use Rattle.cls_base.specs.Taxa.{Below}
use Rattle.cls_norm.proofs.Several.{named_above}
use Rattle.cls_norm.proofs.wide.are_below_one.Goals as goal

pub returns-then-is_named : goal.returns-then-is_named
returns-then-is_named g c =
    let t = c.args.taxa.now in
    let met = g.met.T.Taxa in
    let l = named_above (Below (g.T.Taxa.is_below t)) (g.T.Taxa.variance_of_name t) (met.reflexive t) (met.one_variance t) c.args.lowers.now c.args.names.now (type_of c.args.upper.now) c.requires.names (c.is_named.ensures.0 c.if-is_named.true) in
    ((λ h. l), (λ h. refl))
