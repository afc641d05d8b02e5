use Rattle.std.proofs.Common.{◌≡◌, ◌-◌, suc, List, length, refl, sym, ap, ◌∙◌, arith}
use Rattle.cls_proof.specs.Certificates.{Member}
use Rattle.cls_proof.specs.Growing.{last_blocks}
use Rattle.cls_proof.specs.MemberColumns.{blocks_start, member_with}
use Rattle.cls_proof.proofs.PartLaws.{last-length, open_iff}
use Rattle.cls_proof.proofs.member.Members.has_block.Goals as goal

pub returns-then-count-gt0 : goal.returns-then-count-gt0
returns-then-count-gt0 c =
    let i = c.self.inside in
    let last = c.index.result.now in
    let n : suc (c.len-count.result - 1) ≡ length i.starts.items = omega arith in
    let held : length (last_blocks c.args.self.now) ≡ c.len.result - last.blocks =
    ap (λ (xs : List Member). length (last_blocks xs)) (sym c.self.view_is)
    ∙ (last-length blocks_start member_with (λ (x : Member). x.blocks) (λ h part. refl) i.starts.items (c.len-count.result - 1) last i.blocks n c.index.ensures ∙ ap (λ k. k - last.blocks) (sym c.len.ensures)) in
    open_iff last.blocks c.len.result (length (last_blocks c.args.self.now)) held
