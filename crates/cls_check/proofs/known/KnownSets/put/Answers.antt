use Rattle.cls_check.specs.Known.{key_of}
use Rattle.cls_check.proofs.KnownSets.{put_as}
use Rattle.cls_check.proofs.known.KnownSets.put.Goals as goal

pub returns : goal.returns
returns c =
    put_as c.self.inside.sets.keys c.args.self.now c.self.view_is c.in_ok-set.set (key_of c.args.place c.args.positions.now) c.in_ok-set.ensures c.insert.new.self.keys c.in_ok-insert.ensures.keys
