use Rattle.std.proofs.Common.{ℕ, sym, subst}
use Rattle.cls_library.specs.Stems.{HoldsLeading}
use Rattle.cls_library.proofs.Stemming.{by-stem}
use Rattle.cls_library.proofs.family.family_by_stem.Goals as goal

pub number-kind-requires : goal.number-kind-requires
number-kind-requires c = c.requires.table.some

pub family_in_chain-requires-clause-chain : goal.family_in_chain-requires-clause-chain
family_in_chain-requires-clause-chain c =
    let table = c.args.table.now in
    subst (λ (k : ℕ). HoldsLeading c.args.taxonomy.now c.args.count c.args.path.now c.args.paths.now table.chains.firsts.items table.chains.next.items k) (sym c.number-kind.ensures)
    (by-stem c.args.taxonomy.now c.args.count c.args.path.now c.args.paths.now table c.requires.table c.requires.tells)
