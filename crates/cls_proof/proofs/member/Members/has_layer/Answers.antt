use Rattle.std.proofs.Common.{◌≡◌, List, ℕ, length, refl, sym, ap, subst, ◌∙◌, ◌<◌}
use Rattle.cls_proof.specs.Certificates.{Block, Member}
use Rattle.cls_proof.specs.Growing.{HasBlock, last_blocks, last_layers}
use Rattle.cls_proof.specs.MemberColumns.{blocks_start, member_with, members_of}
use Rattle.cls_proof.proofs.PartLaws.{last-inner}
use Rattle.cls_proof.proofs.member.Members.has_layer.Goals as goal

pub returns-then-has_block : goal.returns-then-has_block
returns-then-has_block c =
    let i = c.self.inside in
    let some : HasBlock (members_of i.starts.items i.blocks) = subst HasBlock (sym c.self.view_is) (c.has_block.ensures.0 c.if-has_block.true) in
    let same : last_layers i.blocks ≡ last_layers (last_blocks c.args.self.now) =
    sym (last-inner blocks_start member_with (λ (m : Member). m.blocks) (λ h part. refl) (λ (b : Block). b.layers) i.starts.items i.blocks some)
    ∙ ap (λ (members : List Member). last_layers (last_blocks members)) c.self.view_is in (
      (λ t. subst (λ (layers : List (List (List ℕ))). 0 < length layers) same (c.has_layer.ensures.0 t)),
      (λ h. c.has_layer.ensures.1 (subst (λ (layers : List (List (List ℕ))). 0 < length layers) (sym same) h)),
    )
