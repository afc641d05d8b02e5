-- The member that a value is seen as.
use Rattle.cls_base.specs.Ty.{type_of}
use Rattle.cls_proof.specs.declared.member.MemberRef.{MemberRef}
use Rattle.cls_proof.specs.Certificates.{Member}

abbrev pub member_seen : MemberRef → Member
member_seen m = record { goal = type_of m.goal.now; blocks = m.blocks }
