use Rattle.std.proofs.Common.{◌≡◌, ◌++◌, ◌∷◌, [], List, length, sym, ap, subst, ◌∙◌, arith}
use Rattle.cls_base.specs.Ty.{type_of}
use Rattle.cls_proof.specs.declared.member.MemberStart.{MemberStart}
use Rattle.cls_proof.specs.MemberColumns.{blocks_start, member_with, members_of}
use Rattle.cls_proof.specs.Certificates.{Member}
use Rattle.cls_proof.specs.Growing.{new_member}
use Rattle.cls_proof.specs.Parts.{AreStarts}
use Rattle.cls_proof.proofs.PartLaws.{starts-push, parts-push}
use Rattle.cls_proof.proofs.member.Members.push_member.Goals as goal

pub invariant_of-self-2 : goal.invariant_of-self-2
invariant_of-self-2 c =
    let i = c.self.inside in
    let m : MemberStart = record { goal = c.args.goal; blocks = c.in-Ok.blocks } in
    let e : c.in-Ok.blocks ≡ length i.blocks = omega arith in
    subst (λ (s : List MemberStart). AreStarts blocks_start s (length i.blocks)) (sym c.in_ok-push.ensures.items) (starts-push blocks_start i.starts.items m (length i.blocks) c.self.invariant e)

pub returns : goal.returns
returns c =
    let i = c.self.inside in
    let m : MemberStart = record { goal = c.args.goal; blocks = c.in-Ok.blocks } in
    let e : c.in-Ok.blocks ≡ length i.blocks = omega arith in
    ap (λ (s : List MemberStart). members_of s i.blocks) c.in_ok-push.ensures.items
    ∙ (parts-push blocks_start member_with i.starts.items m i.blocks c.self.invariant e
    ∙ ap (λ (members : List Member). members ++ new_member (type_of c.args.goal) ∷ []) c.self.view_is)
