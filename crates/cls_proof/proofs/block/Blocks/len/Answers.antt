use Rattle.std.proofs.Common.{length, ap, arith}
use Rattle.cls_proof.specs.BlockColumns.{layers_start, block_with}
use Rattle.cls_proof.proofs.PartLaws.{length-parts}
use Rattle.cls_proof.proofs.block.Blocks.len.Goals as goal

pub returns : goal.returns
returns c = omega (arith, c.len.ensures, length-parts layers_start block_with c.self.inside.starts.items c.self.inside.layers, ap length c.self.view_is)
