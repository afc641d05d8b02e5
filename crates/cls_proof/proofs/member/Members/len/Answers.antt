use Rattle.std.proofs.Common.{length, ap, arith}
use Rattle.cls_proof.specs.MemberColumns.{blocks_start, member_with}
use Rattle.cls_proof.proofs.PartLaws.{length-parts}
use Rattle.cls_proof.proofs.member.Members.len.Goals as goal

pub returns : goal.returns
returns c = omega (arith, c.len.ensures, length-parts blocks_start member_with c.self.inside.starts.items c.self.inside.blocks, ap length c.self.view_is)
