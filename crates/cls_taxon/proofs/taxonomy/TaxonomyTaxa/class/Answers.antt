use Rattle.std.proofs.Common.{◌+◌, ◌<◌, ◌≤◌, length, ap, ◌∙◌, arith}
use Rattle.cls_taxon.specs.Orders.{Declared, class_by}
use Rattle.cls_taxon.specs.Places.{place_of}
use Rattle.cls_taxon.proofs.PairLaws.{class-placed, class-unplaced}
use Rattle.cls_taxon.proofs.taxonomy.TaxonomyTaxa.class.Goals as goal

pub returns-then-place-len : goal.returns-then-place-len
returns-then-place-len c =
    let names = c.self.inside.places in
    let within : place_of names c.args.name.0 < length names = omega (arith, c.place.ensures, c.len.ensures.count, c.if-place-len.true) in
    record { is = class-placed _ names c.args.name.0 c.self.invariant.standing within ∙ ap (λ (d : Declared). class_by d.pairs c.args.name.0) c.self.view_is }

pub returns-else-place-len : goal.returns-else-place-len
returns-else-place-len c =
    let names = c.self.inside.places in
    let beyond : length names ≤ place_of names c.args.name.0 = omega (arith, c.place.ensures, c.len.ensures.count, c.if-place-len.false) in
    record { is = ap (λ n. n + 1) c.from.ensures ∙ (class-unplaced _ names c.args.name.0 c.self.invariant.closure.held beyond ∙ ap (λ (d : Declared). class_by d.pairs c.args.name.0) c.self.view_is) }
