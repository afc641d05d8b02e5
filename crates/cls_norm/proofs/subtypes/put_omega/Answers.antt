use Rattle.std.proofs.Common.{sym}
use Rattle.cls_base.specs.Types.{omega}
use Rattle.cls_base.specs.Taxa.{Below}
use Rattle.cls_norm.proofs.Parts.{name_entered}
use Rattle.cls_norm.proofs.subtypes.put_omega.Goals as goal

pub returns-in_ok-push : goal.returns-in_ok-push
returns-in_ok-push g c =
    let b = Below (g.T.Taxa.is_below c.args.taxa.now) in
    let v = g.T.Taxa.variance_of_name c.args.taxa.now in
    name_entered b v (g.met.T.Taxa.one_variance c.args.taxa.now) c.args.step c.args.name.0 omega c.args.omega c.args.parts.now.items c.push.new.self.items
    (sym c.requires.omega) c.in_ok-push.ensures.items c.requires.stands (c.is_entered.ensures.0 c.if-is_entered.true)
