use Rattle.cls_cover.proofs.Fronts.{kept_small, kept_large}
use Rattle.cls_cover.proofs.growing.GrowingCovers.grow.Goals as goal

pub grow_small-requires-clause-covers : goal.grow_small-requires-clause-covers
grow_small-requires-clause-covers c = kept_small c.args.families.now c.args.limit c.args.count c.args.self.kind c.in-Small.small c.in-Small.is c.requires.covers

pub returns-in_ok-grow_small-in-Small-clause-covers : goal.returns-in_ok-grow_small-in-Small-clause-covers
returns-in_ok-grow_small-in-Small-clause-covers c = c.in_ok-grow_small-in-Small.ensures.covers

pub grow_large-requires-clause-covers : goal.grow_large-requires-clause-covers
grow_large-requires-clause-covers c = kept_large c.args.families.now c.args.limit c.args.count c.args.self.kind c.in-Large.before c.in-Large.is c.requires.covers

pub returns-in_ok-large-in-Large-clause-covers : goal.returns-in_ok-large-in-Large-clause-covers
returns-in_ok-large-in-Large-clause-covers c = c.in_ok-large-in-Large.ensures.covers
