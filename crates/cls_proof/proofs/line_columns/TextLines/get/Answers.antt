use Rattle.std.proofs.Common.{◌≡◌, ◌<◌, ◌≤◌, ◌-◌, ℕ, List, [], ap, sym, subst, ◌∙◌, arith, length, take, drop, ◌∷◌}
use Rattle.std.specs.Prelude.{slice_index, slice_index_or, string_bytes}
use Rattle.std.specs.Str.{IsUtf8, IsCharBoundary}
use Rattle.cls_base.proofs.Cutting.{ends-at, length-cut, place-at, cut-at}
use Rattle.cls_proof.proofs.TextEnds.{boundary-at, start-at}
use Rattle.cls_proof.proofs.line_columns.TextLines.get.Goals as goal

within : (c : goal.After-as_slice) → c.args.i < length c.self.inside.ends.items
within c = omega (arith, c.requires, ap length c.self.view_is, length-cut (string_bytes c.self.inside.column) 0 c.self.inside.ends.items)

pub start_of-start-requires : goal.start_of-start-requires
start_of-start-requires c = omega (arith, within c, c.as_slice.ensures.len)

pub index-requires : goal.index-requires
index-requires c = omega (arith, c.requires, ap length c.self.view_is, length-cut (string_bytes c.self.inside.column) 0 c.self.inside.ends.items)

-- where the line begins and ends
start : (c : goal.After-row_known-1) → c.start_of-start.result ≡ slice_index (0 ∷ c.self.inside.ends.items) c.args.i
start c = c.start_of-start.ensures ∙ ap (λ (es : List ℕ). slice_index (0 ∷ es) c.args.i) c.as_slice.ensures.value

end : (c : goal.After-row_known-1) → c.index.result.now ≡ slice_index c.self.inside.ends.items c.args.i
end c =
    let l : c.args.i < length c.self.inside.ends.items = omega (arith, c.requires, ap length c.self.view_is, length-cut (string_bytes c.self.inside.column) 0 c.self.inside.ends.items) in
    place-at c.self.inside.ends.items c.args.i c.index.result.now l c.index.ensures

pub range-requires-clause-start_le_end : goal.range-requires-clause-start_le_end
range-requires-clause-start_le_end c =
    let bytes = string_bytes c.self.inside.column in
    let ends = c.self.inside.ends.items in
    let l : c.args.i < length ends = omega (arith, c.requires, ap length c.self.view_is, length-cut bytes 0 ends) in
    omega (arith, (ends-at 0 (length bytes) ends c.args.i c.self.invariant.rise l).0, start c, end c)

pub range-requires-clause-start_boundary : goal.range-requires-clause-start_boundary
range-requires-clause-start_boundary c =
    let ends = c.self.inside.ends.items in
    let bytes = string_bytes c.self.inside.column in
    let l : c.args.i ≤ length ends = omega (arith, c.requires, ap length c.self.view_is, length-cut bytes 0 ends) in
    let h = start-at bytes ends c.args.i (subst IsUtf8 c.deref.ensures c.deref.utf8) c.self.invariant.boundaries l in
    λ _. subst (λ (bs : List ℕ). IsCharBoundary bs c.start_of-start.result) (sym c.deref.ensures)
    (subst (λ (n : ℕ). IsCharBoundary bytes n) (sym (start c)) h)

pub range-requires-clause-end_boundary : goal.range-requires-clause-end_boundary
range-requires-clause-end_boundary c =
    let ends = c.self.inside.ends.items in
    let bytes = string_bytes c.self.inside.column in
    let l : c.args.i < length ends = omega (arith, c.requires, ap length c.self.view_is, length-cut bytes 0 ends) in
    let h = boundary-at bytes ends c.args.i c.self.invariant.boundaries l in
    subst (λ (bs : List ℕ). IsCharBoundary bs c.index.result.now) (sym c.deref.ensures)
    (subst (λ (n : ℕ). IsCharBoundary bytes n) (sym (end c)) h)

pub returns : goal.returns
returns c =
    let ends = c.self.inside.ends.items in
    let bytes = string_bytes c.self.inside.column in
    let l : c.args.i < length ends = omega (arith, c.requires, ap length c.self.view_is, length-cut bytes 0 ends) in
    let s : c.start_of-start.result ≡ slice_index (0 ∷ ends) c.args.i = c.start_of-start.ensures ∙ ap (λ (es : List ℕ). slice_index (0 ∷ es) c.args.i) c.as_slice.ensures.value in
    let e : c.index.result.now ≡ slice_index ends c.args.i = place-at ends c.args.i c.index.result.now l c.index.ensures in
    c.range.ensures.value
    ∙ ((λ j. take (e j - s j) (drop (s j) (c.deref.ensures j)))
    ∙ (sym (cut-at bytes 0 ends c.args.i l) ∙ ap (λ (ls : List (List ℕ)). slice_index_or ls c.args.i []) c.self.view_is))
