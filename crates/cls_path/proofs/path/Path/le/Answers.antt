use Rattle.std.proofs.Common.{sym, ◌∙◌}
use Rattle.cls_base.specs.Taxa.{Below}
use Rattle.cls_path.proofs.Decided.{le_tested, tested_le}
use Rattle.cls_path.proofs.Derivations.{path_exact}
use Rattle.cls_path.proofs.path.Path.le.Goals as goal

pub returns-clause-cases : goal.returns-clause-cases
returns-clause-cases g c =
    let b = g.T.Taxa.is_below c.args.taxa.now in
    let v = g.T.Taxa.variance_of_name c.args.taxa.now in
    let met = g.met.T.Taxa in (
      λ h. tested_le b v (met.reflexive c.args.taxa.now) (met.transitive c.args.taxa.now) (met.one_variance c.args.taxa.now) c.args.self.now c.args.other.now c.requires.suits c.requires.other_suits (sym c.is_below.ensures ∙ h),
      λ l. c.is_below.ensures ∙ le_tested b v l,
    )

pub returns-clause-exact : goal.returns-clause-exact
returns-clause-exact g c =
    let b = g.T.Taxa.is_below c.args.taxa.now in
    let v = g.T.Taxa.variance_of_name c.args.taxa.now in
    let met = g.met.T.Taxa in
    let e = path_exact (Below b) v (met.reflexive c.args.taxa.now) (met.transitive c.args.taxa.now) c.args.self.now c.args.other.now c.requires.suits c.requires.other_suits in
    let k = returns-clause-cases g c in
    (λ h. e.0 (k.0 h), λ d. k.1 (e.1 d))
