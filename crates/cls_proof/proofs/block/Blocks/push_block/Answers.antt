use Rattle.std.proofs.Common.{◌≡◌, ◌++◌, ◌∷◌, [], List, length, sym, ap, subst, ◌∙◌, arith, length-append}
use Rattle.cls_proof.specs.declared.block.BlockStart.{BlockStart}
use Rattle.cls_proof.specs.BlockColumns.{layers_start, block_with, blocks_of}
use Rattle.cls_proof.specs.Certificates.{Block}
use Rattle.cls_proof.specs.Growing.{new_block}
use Rattle.cls_proof.specs.Parts.{AreStarts}
use Rattle.cls_proof.proofs.PartLaws.{starts-push, length-parts, parts-push}
use Rattle.cls_proof.proofs.block.Blocks.push_block.Goals as goal

pub invariant_of-self-2 : goal.invariant_of-self-2
invariant_of-self-2 c =
    let i = c.self.inside in
    let b : BlockStart = record { component = c.args.component; n = c.args.n; layers = c.in-Ok.layers } in
    let e : c.in-Ok.layers ≡ length i.layers = omega arith in
    subst (λ (s : List BlockStart). AreStarts layers_start s (length i.layers)) (sym c.in_ok-push.ensures.items) (starts-push layers_start i.starts.items b (length i.layers) c.self.invariant e)

pub returns-clause-ok : goal.returns-clause-ok
returns-clause-ok c =
    let i = c.self.inside in
    let b : BlockStart = record { component = c.args.component; n = c.args.n; layers = c.in-Ok.layers } in
    let e : c.in-Ok.layers ≡ length i.layers = omega arith in
    ap (λ (s : List BlockStart). blocks_of s i.layers) c.in_ok-push.ensures.items
    ∙ (parts-push layers_start block_with i.starts.items b i.layers c.self.invariant e
    ∙ ap (λ (blocks : List Block). blocks ++ new_block c.args.component c.args.n ∷ []) c.self.view_is)

pub returns-clause-count : goal.returns-clause-count
returns-clause-count c =
    let i = c.self.inside in
    let b : BlockStart = record { component = c.args.component; n = c.args.n; layers = c.in-Ok.layers } in
    omega (arith, ap length c.self.view_is, length-parts layers_start block_with i.starts.items i.layers, length-parts layers_start block_with c.push.new.self.items i.layers, ap length c.in_ok-push.ensures.items, length-append i.starts.items (b ∷ []))
