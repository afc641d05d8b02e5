use Rattle.std.proofs.Common.{◌≡◌, ◌<◌, ◌+◌, List, ℕ, [], length, get_or, drop, sym, ap, ◌∙◌, arith}
use Rattle.cls_proof.specs.Parts.{next_start, itself}
use Rattle.cls_proof.proofs.PartLaws.{lists-at, list-begins, length-lists}
use Rattle.cls_proof.proofs.layer.Layers.get.Goals as goal

pub index-requires : goal.index-requires
index-requires c =
    let i = c.self.inside in
    omega (arith, c.requires, ap length c.self.view_is, length-lists i.starts.items i.sets)

pub end_of-end-requires : goal.end_of-end-requires
end_of-end-requires c =
    let i = c.self.inside in
    omega (arith, c.requires, ap length c.self.view_is, length-lists i.starts.items i.sets, ap length c.as_slice.ensures.value)

within : (c : goal.After-end_of-end) → c.args.i < length c.self.inside.starts.items
within c = omega (arith, c.requires, ap length c.self.view_is, length-lists c.self.inside.starts.items c.self.inside.sets)

ends : (c : goal.After-end_of-end) → c.end_of-end.result ≡ next_start itself (drop (c.args.i + 1) c.self.inside.starts.items) (length c.self.inside.sets)
ends c = c.end_of-end.ensures ∙ (λ j. next_start itself (drop (c.args.i + 1) (c.as_slice.ensures.value j)) (c.len.ensures j))

pub part-requires-clause-rise : goal.part-requires-clause-rise
part-requires-clause-rise c = (list-begins c.self.inside.starts.items c.args.i c.index.result.now c.end_of-end.result (length c.self.inside.sets) c.self.invariant (within c) c.index.ensures (ends c)).0

pub part-requires-clause-within : goal.part-requires-clause-within
part-requires-clause-within c = (list-begins c.self.inside.starts.items c.args.i c.index.result.now c.end_of-end.result (length c.self.inside.sets) c.self.invariant (within c) c.index.ensures (ends c)).1

pub returns : goal.returns
returns c =
    let starts = c.self.inside.starts.items in
    let sets = c.self.inside.sets in
    let l : c.args.i < length starts = omega (arith, c.requires, ap length c.self.view_is, length-lists starts sets) in
    let n : c.end_of-end.result ≡ next_start itself (drop (c.args.i + 1) starts) (length sets) =
    c.end_of-end.ensures ∙ (λ j. next_start itself (drop (c.args.i + 1) (c.as_slice.ensures.value j)) (c.len.ensures j)) in
    c.part.ensures
    ∙ (sym (lists-at starts sets c.args.i c.index.result.now c.end_of-end.result l c.index.ensures n)
    ∙ ap (λ (layers : List (List (List ℕ))). get_or layers c.args.i []) c.self.view_is)
