use Rattle.cls_library.proofs.Stemming.{by-ending}
use Rattle.cls_library.proofs.family.family_along.Goals as goal

pub family_by_stem-requires-clause-table : goal.family_by_stem-requires-clause-table
family_by_stem-requires-clause-table c = c.in-Some.ensures.table c.args.paths.now c.requires.stems

pub family_in_chain-requires-clause-chain : goal.family_in_chain-requires-clause-chain
family_in_chain-requires-clause-chain c =
    let ends = c.args.endings.now in
    by-ending c.args.taxonomy.now c.args.count c.args.path.now c.args.paths.now c.requires.alone ends.kinds.keys ends.places.items ends.chains.firsts.items ends.chains.next.items c.requires.endings c.requires.chains c.args.kind c.requires.kind
