use Rattle.std.proofs.Common.{length, ap, arith}
use Rattle.cls_proof.proofs.PartLaws.{length-lists}
use Rattle.cls_proof.proofs.layer.Layers.len.Goals as goal

pub returns : goal.returns
returns c = omega (arith, c.len.ensures, length-lists c.self.inside.starts.items c.self.inside.sets, ap length c.self.view_is)
