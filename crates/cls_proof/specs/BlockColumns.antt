-- internal: blocks that are kept in columns
use Rattle.std.specs.Prelude.{ℕ, List}
use Rattle.cls_proof.specs.declared.block.BlockStart.{BlockStart}
use Rattle.cls_proof.specs.Certificates.{Block}
use Rattle.cls_proof.specs.Parts.{parts}

abbrev pub layers_start : BlockStart → ℕ
layers_start b = b.layers

abbrev pub block_with : BlockStart → List (List (List ℕ)) → Block
block_with b layers = record { component = b.component; n = b.n; layers = layers }

abbrev pub blocks_of : List BlockStart → List (List (List ℕ)) → List Block
blocks_of starts layers = parts layers_start block_with starts layers
