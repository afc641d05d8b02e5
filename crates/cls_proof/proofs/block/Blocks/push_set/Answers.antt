use Rattle.std.proofs.Common.{◌++◌, ◌∷◌, [], List, ℕ, length, refl, sym, subst, ap, ◌∙◌, arith}
use Rattle.std.proofs.lemmas.Result.{on_ok_weaker}
use Rattle.cls_proof.specs.BlockColumns.{layers_start, block_with, blocks_of}
use Rattle.cls_proof.specs.Certificates.{Block}
use Rattle.cls_proof.specs.Growing.{HasLayers, in_last_block, with_set}
use Rattle.cls_proof.proofs.PartLaws.{starts-more, length-parts, parts-last}
use Rattle.cls_proof.proofs.block.Blocks.push_set.Goals as goal

pub invariant_of-self : goal.invariant_of-self
invariant_of-self c =
    let i = c.self.inside in
    starts-more layers_start i.starts.items (length i.layers) (length c.push_set.new.self) c.self.invariant c.push_set.ensures.count

pub returns-clause-ok : goal.returns-clause-ok
returns-clause-ok c =
    let i = c.self.inside in
    let f : Block → Block = λ b. record { component = b.component; n = b.n; layers = with_set c.args.set.now b.layers } in
    let some : HasLayers (blocks_of i.starts.items i.layers) = subst HasLayers (sym c.self.view_is) c.requires in
    on_ok_weaker c.push_set.result (λ p.
    ap (λ (layers : List (List (List ℕ))). blocks_of i.starts.items layers) p
    ∙ (parts-last layers_start block_with (λ (b : Block). b.layers) (λ h part. refl) (λ (sets : List (List ℕ)). sets ++ c.args.set.now ∷ []) f (λ h part. refl) i.starts.items i.layers c.self.invariant some
    ∙ ap (λ (blocks : List Block). in_last_block (with_set c.args.set.now) blocks) c.self.view_is)) c.push_set.ensures.ok

pub returns-clause-count : goal.returns-clause-count
returns-clause-count c =
    let i = c.self.inside in
    omega (arith, ap length c.self.view_is, length-parts layers_start block_with i.starts.items i.layers, length-parts layers_start block_with i.starts.items c.push_set.new.self)
