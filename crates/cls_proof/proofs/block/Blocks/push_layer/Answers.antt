use Rattle.std.proofs.Common.{◌++◌, ◌∷◌, [], List, ℕ, length, refl, ap, ◌∙◌, arith}
use Rattle.std.proofs.lemmas.Result.{on_ok_weaker}
use Rattle.cls_proof.specs.BlockColumns.{layers_start, block_with, blocks_of}
use Rattle.cls_proof.specs.Certificates.{Block}
use Rattle.cls_proof.specs.Growing.{in_last_block}
use Rattle.cls_proof.proofs.PartLaws.{starts-more, length-parts, parts-more}
use Rattle.cls_proof.proofs.block.Blocks.push_layer.Goals as goal

pub invariant_of-self : goal.invariant_of-self
invariant_of-self c =
    let i = c.self.inside in
    starts-more layers_start i.starts.items (length i.layers) (length c.push_layer.new.self) c.self.invariant c.push_layer.ensures.count

pub returns-clause-ok : goal.returns-clause-ok
returns-clause-ok c =
    let i = c.self.inside in
    let more : List (List (List ℕ)) → List (List (List ℕ)) = λ layers. layers ++ [] ∷ [] in
    let f : Block → Block = λ b. record { component = b.component; n = b.n; layers = more b.layers } in
    on_ok_weaker c.push_layer.result (λ p.
    ap (λ (layers : List (List (List ℕ))). blocks_of i.starts.items layers) p
    ∙ (parts-more layers_start block_with f ([] ∷ []) (λ h part. refl) i.starts.items i.layers c.self.invariant
    ∙ ap (λ (blocks : List Block). in_last_block more blocks) c.self.view_is)) c.push_layer.ensures.ok

pub returns-clause-count : goal.returns-clause-count
returns-clause-count c =
    let i = c.self.inside in
    omega (arith, ap length c.self.view_is, length-parts layers_start block_with i.starts.items i.layers, length-parts layers_start block_with i.starts.items c.push_layer.new.self)
