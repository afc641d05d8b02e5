use Rattle.std.proofs.Common.{◌++◌, ◌∷◌, [], List, ℕ, length, refl, sym, subst, ap, ◌∙◌}
use Rattle.std.proofs.lemmas.Result.{on_ok_weaker}
use Rattle.cls_proof.specs.MemberColumns.{blocks_start, member_with, members_of}
use Rattle.cls_proof.specs.Certificates.{Block, Member}
use Rattle.cls_proof.specs.Growing.{HasBlock, in_last_member, in_last_block}
use Rattle.cls_proof.proofs.PartLaws.{starts-more, parts-last}
use Rattle.cls_proof.proofs.member.Members.push_layer.Goals as goal

pub invariant_of-self : goal.invariant_of-self
invariant_of-self c =
    let i = c.self.inside in
    starts-more blocks_start i.starts.items (length i.blocks) (length c.push_layer.new.self) c.self.invariant c.push_layer.ensures.count

pub returns : goal.returns
returns c =
    let i = c.self.inside in
    let change : List (List (List ℕ)) → List (List (List ℕ)) = (λ layers. layers ++ [] ∷ []) in
    let f : Block → Block = λ b. record { component = b.component; n = b.n; layers = change b.layers } in
    let g : Member → Member = λ m. record { goal = m.goal; blocks = in_last_block change m.blocks } in
    let some : HasBlock (members_of i.starts.items i.blocks) = subst HasBlock (sym c.self.view_is) c.requires in
    on_ok_weaker c.push_layer.result (λ p.
    ap (λ (blocks : List Block). members_of i.starts.items blocks) p
    ∙ (parts-last blocks_start member_with (λ (m : Member). m.blocks) (λ h part. refl) f g (λ h part. refl) i.starts.items i.blocks c.self.invariant some
    ∙ ap (λ (members : List Member). in_last_member (in_last_block change) members) c.self.view_is)) c.push_layer.ensures.ok
