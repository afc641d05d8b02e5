use Rattle.std.proofs.Common.{◌≡◌, ◌-◌, ◌<◌, ◌≤◌, ℕ, List, ◌∷◌, length, take, drop, get_or, sym, ◌∙◌, arith, rules}
use Rattle.cls_base.specs.Cuts.{AreEnds}
use Rattle.cls_base.proofs.Cutting.{cut-at, ends-at}
use Rattle.cls_filtered.proofs.step_book.last_steps.Goals as goal

bounds : (ends : List ℕ) (i start n : ℕ) → AreEnds 0 n ends → i < length ends → start ≡ get_or (0 ∷ ends) i 0 → (start ≤ get_or ends i 0) × (get_or ends i 0 ≤ n)
bounds ends i start n h l s = let e = ends-at 0 n ends i h l in (omega (arith, e.0, s), e.1)

pub slice_bounds-result-count : goal.slice_bounds-result-count
slice_bounds-result-count c =
    (bounds c.args.ends.now c.args.place c.start_of-start.result (length c.args.lasts.now) c.requires.ends c.requires.place c.start_of-start.ensures).0

pub slice_bounds-result-start : goal.slice_bounds-result-start
slice_bounds-result-start c =
    let b : _ = bounds c.args.ends.now c.args.place c.start_of-start.result (length c.args.lasts.now) c.requires.ends c.requires.place c.start_of-start.ensures in
    search rules

pub slice_bounds-result-end : goal.slice_bounds-result-end
slice_bounds-result-end c =
    let b = (bounds c.args.ends.now c.args.place c.start_of-start.result (length c.args.lasts.now) c.requires.ends c.requires.place c.start_of-start.ensures).1 in
    search rules

pub returns : goal.returns
returns c =
    let xs = c.args.lasts.now in
    let i = c.args.place in
    let end = get_or c.args.ends.now i 0 in
    (λ j. take (end - c.start_of-start.ensures j) (drop (c.start_of-start.ensures j) xs)) ∙ sym (cut-at xs 0 c.args.ends.now i c.requires.place)
