use Rattle.std.proofs.Common.{◌++◌, ◌∷◌, [], List, length, refl, ap, ◌∙◌}
use Rattle.std.proofs.lemmas.Result.{on_ok_weaker}
use Rattle.cls_proof.specs.MemberColumns.{blocks_start, member_with, members_of}
use Rattle.cls_proof.specs.Certificates.{Block, Member}
use Rattle.cls_proof.specs.Growing.{in_last_member, new_block}
use Rattle.cls_proof.proofs.PartLaws.{starts-more, parts-more}
use Rattle.cls_proof.proofs.member.Members.push_block.Goals as goal

pub invariant_of-self : goal.invariant_of-self
invariant_of-self c =
    let i = c.self.inside in
    starts-more blocks_start i.starts.items (length i.blocks) (length c.push_block.new.self) c.self.invariant c.push_block.ensures.count

pub returns : goal.returns
returns c =
    let i = c.self.inside in
    let b : Block = new_block c.args.component c.args.n in
    let more : List Block → List Block = λ blocks. blocks ++ b ∷ [] in
    let f : Member → Member = λ m. record { goal = m.goal; blocks = more m.blocks } in
    on_ok_weaker c.push_block.result (λ p.
    ap (λ (blocks : List Block). members_of i.starts.items blocks) p
    ∙ (parts-more blocks_start member_with f (b ∷ []) (λ h part. refl) i.starts.items i.blocks c.self.invariant
    ∙ ap (λ (members : List Member). in_last_member more members) c.self.view_is)) c.push_block.ensures.ok
