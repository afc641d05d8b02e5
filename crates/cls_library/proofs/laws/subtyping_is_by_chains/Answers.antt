use Rattle.cls_library.proofs.NameChains.{subtyping-is-by-chains}
use Rattle.cls_library.proofs.laws.subtyping_is_by_chains.Goals as goal

pub returns : goal.returns
returns c = subtyping-is-by-chains
