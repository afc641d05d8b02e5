-- The block that a value is seen as.
use Rattle.cls_proof.specs.declared.block.BlockRef.{BlockRef}
use Rattle.cls_proof.specs.Certificates.{Block}

abbrev pub block_seen : BlockRef → Block
block_seen b = record { component = b.component; n = b.n; layers = b.layers }
