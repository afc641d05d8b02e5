use Rattle.std.proofs.Common.{map, take}
use Rattle.std.proofs.lemmas.Result.{IfOk-weaker}
use Rattle.cls_cover.specs.Covers.{AreCovers}
use Rattle.cls_cover.specs.Fronts.{AreInOrder}
use Rattle.cls_cover.specs.Growing.{sets}
use Rattle.cls_cover.specs.Sets.{members}
use Rattle.cls_cover.proofs.Choosing.{covers_apart}
use Rattle.cls_cover.proofs.Fronts.{kept_small, kept_large, small_in_order, large_in_order}
use Rattle.cls_cover.proofs.Public.{to_covers}
use Rattle.cls_cover.proofs.growing.GrowingCovers.covers.Goals as goal

pub list_small-requires-clause-differ : goal.list_small-requires-clause-differ
list_small-requires-clause-differ c =
    let k = kept_small c.requires.0 c.requires.1 c.requires.2 c.args.self.now.kind c.in-Small.small c.in-Small.is c.requires.3 in
    k.found.covers.differ

pub list_small-requires-clause-apart : goal.list_small-requires-clause-apart
list_small-requires-clause-apart c =
    let k = kept_small c.requires.0 c.requires.1 c.requires.2 c.args.self.now.kind c.in-Small.small c.in-Small.is c.requires.3 in
    covers_apart c.requires.0 c.requires.2 (map members c.in-Small.small.list.items) k.found.covers

pub returns-in-Small : goal.returns-in-Small
returns-in-Small c = λ families limit count h.
    let small = c.in-Small.small in
    let k = kept_small families limit count c.args.self.now.kind small c.in-Small.is h in
    IfOk-weaker c.list_small.result (λ all. AreInOrder (map members small.list.items) all) (λ all. AreCovers (take count families) all)
    (λ all o. to_covers (take count families) all (small_in_order families count all (map members small.list.items) k.found o)) c.list_small.ensures

pub list_large-requires : goal.list_large-requires
list_large-requires c =
    let k = kept_large c.requires.0 c.requires.1 c.requires.2 c.args.self.now.kind c.in-Large.large c.in-Large.is c.requires.3 in
    k.found.differ

pub returns-in-Large : goal.returns-in-Large
returns-in-Large c = λ families limit count h.
    let large = c.in-Large.large in
    let k = kept_large families limit count c.args.self.now.kind large c.in-Large.is h in
    IfOk-weaker c.list_large.result (λ all. AreInOrder (sets large.list.items) all) (λ all. AreCovers (take count families) all)
    (λ all o. to_covers (take count families) all (large_in_order families count all large.list.items k.found o)) c.list_large.ensures
