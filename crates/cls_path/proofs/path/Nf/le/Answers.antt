use Rattle.std.proofs.Common.{sym, ◌∙◌}
use Rattle.cls_base.specs.Taxa.{Below}
use Rattle.cls_path.specs.Paths.{listed}
use Rattle.cls_path.proofs.Decided.{paths_tested, tested_paths}
use Rattle.cls_path.proofs.Derivations.{paths_exact}
use Rattle.cls_path.proofs.path.Nf.le.Goals as goal

pub returns-clause-cases : goal.returns-clause-cases
returns-clause-cases g c =
    let b = g.T.Taxa.is_below c.args.taxa.now in
    let v = g.T.Taxa.variance_of_name c.args.taxa.now in
    let met = g.met.T.Taxa in (
      λ h. tested_paths b v (met.reflexive c.args.taxa.now) (met.transitive c.args.taxa.now) (met.one_variance c.args.taxa.now) (listed c.args.self.now) (listed c.args.other.now) c.requires.suits c.requires.other_suits (sym c.is_below.ensures ∙ h),
      λ l. c.is_below.ensures ∙ paths_tested b v l,
    )

pub returns-clause-exact : goal.returns-clause-exact
returns-clause-exact g c =
    let b = g.T.Taxa.is_below c.args.taxa.now in
    let v = g.T.Taxa.variance_of_name c.args.taxa.now in
    let met = g.met.T.Taxa in
    let e = paths_exact (Below b) v (met.reflexive c.args.taxa.now) (met.transitive c.args.taxa.now) (listed c.args.self.now) (listed c.args.other.now) c.requires.suits c.requires.other_suits in
    let k = returns-clause-cases g c in
    (λ h. e.0 (k.0 h), λ d. k.1 (e.1 d))
