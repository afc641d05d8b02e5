use Rattle.std.proofs.Common.{◌≡◌, ◌<◌, ◌+◌, suc, List, ℕ, length, drop, slice_get, Some, sym, ap, ◌∙◌, add-one, arith}
use Rattle.cls_proof.specs.Certificates.{Block}
use Rattle.cls_proof.specs.BlockColumns.{layers_start, block_with}
use Rattle.cls_proof.specs.Parts.{next_start}
use Rattle.cls_proof.proofs.PartLaws.{length-parts, parts-at, start-at, end-at}
use Rattle.cls_proof.proofs.block.Blocks.get.Goals as goal

pub index-block-requires : goal.index-block-requires
index-block-requires c =
    let i = c.self.inside in
    omega (arith, c.requires, ap length c.self.view_is, length-parts layers_start block_with i.starts.items i.layers)

pub end_of-end-requires : goal.end_of-end-requires
end_of-end-requires c =
    let i = c.self.inside in
    omega (arith, c.requires, ap length c.self.view_is, length-parts layers_start block_with i.starts.items i.layers, ap length c.as_slice.ensures.value)

pub part-requires-clause-rise : goal.part-requires-clause-rise
part-requires-clause-rise c =
    let i = c.self.inside in
    let n : c.end_of-end.result ≡ next_start layers_start (drop (suc c.args.i) i.starts.items) (length i.layers) =
    rw add-one at (c.end_of-end.ensures ∙ (λ j. next_start layers_start (drop (c.args.i + 1) (c.as_slice.ensures.value j)) (c.len.ensures j))) in
    let l : c.args.i < length i.starts.items = omega (arith, c.requires, ap length c.self.view_is, length-parts layers_start block_with i.starts.items i.layers) in
    omega (arith, n, start-at layers_start i.starts.items c.args.i (length i.layers) c.index-block.result.now c.self.invariant c.index-block.ensures l)

pub part-requires-clause-within : goal.part-requires-clause-within
part-requires-clause-within c =
    let i = c.self.inside in
    let n : c.end_of-end.result ≡ next_start layers_start (drop (suc c.args.i) i.starts.items) (length i.layers) =
    rw add-one at (c.end_of-end.ensures ∙ (λ j. next_start layers_start (drop (c.args.i + 1) (c.as_slice.ensures.value j)) (c.len.ensures j))) in
    omega (arith, n, end-at layers_start i.starts.items (suc c.args.i) (length i.layers) c.self.invariant)

pub returns : goal.returns
returns c =
    let i = c.self.inside in
    let b = c.index-block.result.now in
    let e = c.end_of-end.result in
    let l : c.args.i < length i.starts.items = omega (arith, c.requires, ap length c.self.view_is, length-parts layers_start block_with i.starts.items i.layers) in
    let n : e ≡ next_start layers_start (drop (suc c.args.i) i.starts.items) (length i.layers) =
    rw add-one at (c.end_of-end.ensures ∙ (λ j. next_start layers_start (drop (c.args.i + 1) (c.as_slice.ensures.value j)) (c.len.ensures j))) in
    ap (λ (blocks : List Block). slice_get blocks c.args.i) (sym c.self.view_is)
    ∙ (parts-at layers_start block_with i.starts.items c.args.i b e i.layers c.index-block.ensures l n
    ∙ ap (λ (layers : List (List (List ℕ))). Some (block_with b layers)) (sym c.part.ensures))
