use Rattle.cls_library.proofs.NameChains.{typing-is-by-chains}
use Rattle.cls_library.proofs.laws.typing_is_by_chains.Goals as goal

pub returns : goal.returns
returns c = typing-is-by-chains
