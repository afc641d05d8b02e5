use Rattle.std.proofs.Common.{◌≡◌, ◌<◌, ◌≤◌, ◌+◌, List, ℕ, [], length, get_or, ◌-◌, take, drop, sym, ap, ◌∙◌, arith, rules}
use Rattle.cls_proof.specs.Parts.{next_start, itself}
use Rattle.cls_proof.proofs.PartLaws.{lists-at, list-begins, length-lists, part-slice}
use Rattle.cls_proof.proofs.sets.Sets.get.Goals as goal

pub index-requires : goal.index-requires
index-requires c =
    let i = c.self.inside in
    omega (arith, c.requires, ap length c.self.view_is, length-lists i.starts.items i.positions.items)

pub end_of-end-requires : goal.end_of-end-requires
end_of-end-requires c =
    let i = c.self.inside in
    omega (arith, c.requires, ap length c.self.view_is, length-lists i.starts.items i.positions.items, ap length c.as_slice.ensures.value)

within : (c : goal.After-end_of-end) → c.args.i < length c.self.inside.starts.items
within c = omega (arith, c.requires, ap length c.self.view_is, length-lists c.self.inside.starts.items c.self.inside.positions.items)

ends : (c : goal.After-end_of-end) → c.end_of-end.result ≡ next_start itself (drop (c.args.i + 1) c.self.inside.starts.items) (length c.self.inside.positions.items)
ends c = c.end_of-end.ensures ∙ (λ j. next_start itself (drop (c.args.i + 1) (c.as_slice.ensures.value j)) (length (c.as_slice-positions.ensures.value j)))

bounds : (c : goal.After-end_of-end) → (c.index.result.now ≤ c.end_of-end.result) × (c.end_of-end.result ≤ length c.self.inside.positions.items)
bounds c = list-begins c.self.inside.starts.items c.args.i c.index.result.now c.end_of-end.result (length c.self.inside.positions.items) c.self.invariant (within c) c.index.ensures (ends c)

pub slice_bounds-result-count : goal.slice_bounds-result-count
slice_bounds-result-count c = (bounds c).0

pub slice_bounds-result-start : goal.slice_bounds-result-start
slice_bounds-result-start c = let b : _ = bounds c in search rules

pub slice_bounds-result-end : goal.slice_bounds-result-end
slice_bounds-result-end c = let b = (bounds c).1 in search rules

pub returns : goal.returns
returns c =
    let starts = c.self.inside.starts.items in
    let positions = c.self.inside.positions.items in
    let s = c.index.result.now in
    let e = c.end_of-end.result in
    let l : c.args.i < length starts = omega (arith, c.requires, ap length c.self.view_is, length-lists starts positions) in
    let n : e ≡ next_start itself (drop (c.args.i + 1) starts) (length positions) =
    c.end_of-end.ensures ∙ (λ j. next_start itself (drop (c.args.i + 1) (c.as_slice.ensures.value j)) (length (c.as_slice-positions.ensures.value j))) in
    let b = list-begins starts c.args.i s e (length positions) c.self.invariant l c.index.ensures n in
    ap (λ (xs : List ℕ). take (e - s) (drop s xs)) c.as_slice-positions.ensures.value
    ∙ (part-slice positions s e b.0
    ∙ (sym (lists-at starts positions c.args.i s e l c.index.ensures n)
    ∙ ap (λ (sets : List (List ℕ)). get_or sets c.args.i []) c.self.view_is))
