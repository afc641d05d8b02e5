use Rattle.std.proofs.Common.{◌≡◌, ◌-◌, suc, List, length, refl, sym, ap, ◌∙◌, arith}
use Rattle.cls_proof.specs.Certificates.{Block}
use Rattle.cls_proof.specs.Growing.{last_layers}
use Rattle.cls_proof.specs.BlockColumns.{layers_start, block_with}
use Rattle.cls_proof.proofs.PartLaws.{last-length, open_iff}
use Rattle.cls_proof.proofs.block.Blocks.has_layer.Goals as goal

pub returns-then-count-gt0 : goal.returns-then-count-gt0
returns-then-count-gt0 c =
    let i = c.self.inside in
    let last = c.index.result.now in
    let n : suc (c.len-count.result - 1) ≡ length i.starts.items = omega arith in
    let held : length (last_layers c.args.self.now) ≡ c.len.result - last.layers =
    ap (λ (xs : List Block). length (last_layers xs)) (sym c.self.view_is)
    ∙ (last-length layers_start block_with (λ (x : Block). x.layers) (λ h part. refl) i.starts.items (c.len-count.result - 1) last i.layers n c.index.ensures ∙ ap (λ k. k - last.layers) (sym c.len.ensures)) in
    open_iff last.layers c.len.result (length (last_layers c.args.self.now)) held
