use Rattle.std.proofs.Common.{◌-◌, ◌∙◌, map, get_or, sym}
use Rattle.cls_walk.specs.FrameColumns.{place_of}
use Rattle.cls_walk.specs.FrameHeaps.{no_mark}
use Rattle.cls_walk.proofs.FrameHeaps.{map-part}
use Rattle.cls_walk.proofs.standing.places_on.Goals as goal

pub returns : goal.returns
returns c =
    map-part c.start_of-first.result (get_or c.args.marks.now (c.args.top - 1) no_mark).last c.args.places.now
    ∙ sym (c.start_of-first.ensures.places (map place_of c.args.places.now))
