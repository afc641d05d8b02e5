use Rattle.std.proofs.Common.{map, ◌∷◌, []}
use Rattle.std.proofs.lemmas.List.{map-append}
use Rattle.cls_cover.specs.Sets.{members}
use Rattle.cls_cover.proofs.Choosing.{given_stays}
use Rattle.cls_cover.proofs.small.add.Goals as goal

pub returns-then-meets : goal.returns-then-meets
returns-then-meets c =
    let b = c.args.begun.now in
    rw (c.in_ok-push.ensures.items, map-append members c.args.list.now.items (c.args.cover ∷ []))
    (given_stays b.families.now b.count c.requires.begun.more (members c.args.cover) (map members c.args.list.now.items) c.requires.free c.requires.minimal (c.meets.ensures.0 c.if-meets.true))
