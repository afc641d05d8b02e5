-- internal: members that are kept in columns
use Rattle.std.specs.Prelude.{ℕ, List}
use Rattle.cls_base.specs.Ty.{type_of}
use Rattle.cls_proof.specs.declared.member.MemberStart.{MemberStart}
use Rattle.cls_proof.specs.Certificates.{Block, Member}
use Rattle.cls_proof.specs.Parts.{parts}

abbrev pub blocks_start : MemberStart → ℕ
blocks_start m = m.blocks

abbrev pub member_with : MemberStart → List Block → Member
member_with m blocks = record { goal = type_of m.goal; blocks = blocks }

abbrev pub members_of : List MemberStart → List Block → List Member
members_of starts blocks = parts blocks_start member_with starts blocks
