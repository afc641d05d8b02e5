use Rattle.cls_check.specs.Known.{key_of}
use Rattle.cls_check.proofs.KnownSets.{found_as}
use Rattle.cls_check.proofs.known.KnownSets.has.Goals as goal

pub returns : goal.returns
returns c =
    found_as c.self.inside.sets.keys c.args.self.now c.self.view_is c.in_ok-set.set (key_of c.args.place c.args.positions.now) c.in_ok-set.ensures c.contains.result c.contains.ensures
