use Rattle.std.proofs.Common.{refl, sym, ◌∙◌}
use Rattle.std.proofs.lemmas.Bool.{false≢true}
use Rattle.cls_base.specs.Taxa.{Below}
use Rattle.cls_norm.proofs.SameNames.{same_in_all, alone_in_all}
use Rattle.cls_norm.proofs.subtypes.have_name.Goals as goal

pub returns-then-some_has_name : goal.returns-then-some_has_name
returns-then-some_has_name g c =
    let t = c.args.taxa.now in
    let met = g.met.T.Taxa in
    ((λ h. same_in_all (Below (g.T.Taxa.is_below t)) (g.T.Taxa.variance_of_name t) (met.reflexive t) (met.one_variance t) c.args.name.0 c.requires c.args.lowers.now (c.some_has_name.ensures.0 c.if-some_has_name.true)), (λ o. refl))

pub returns-then-stands_alone : goal.returns-then-stands_alone
returns-then-stands_alone g c =
    let t = c.args.taxa.now in
    let met = g.met.T.Taxa in
    let one = met.one_variance t in
    let alone = c.stands_alone.ensures.alone c.if-stands_alone.true in (
      (λ h. absurd (false≢true h)),
      (λ o. absurd (false≢true (sym c.if-some_has_name.false ∙ c.some_has_name.ensures.1 (alone_in_all (Below (g.T.Taxa.is_below t)) (g.T.Taxa.variance_of_name t) (met.reflexive t) one c.args.name.0 c.requires alone c.args.lowers.now o)))),
    )
