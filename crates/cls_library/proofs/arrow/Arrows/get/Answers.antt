use Rattle.std.proofs.Common.{◌<◌, ℕ, List, Some, length, sym, ◌∙◌, ap, arith, rules}
use Rattle.std.specs.Prelude.{slice_get, slice_index_or}
use Rattle.std.specs.Option.{option_map}
use Rattle.std.proofs.lemmas.List.{length-map, get_or_default}
use Rattle.std.proofs.lemmas.Option.{slice_get-map, slice_get-get_or}
use Rattle.cls_base.proofs.Lists.{AreBelow-at}
use Rattle.cls_path.specs.Paths.{unit}
use Rattle.cls_library.specs.Arrows.{MultiArrow}
use Rattle.cls_library.specs.Splits.{split_at}
use Rattle.cls_library.proofs.arrow.Arrows.get.Goals as goal

pub bounds-self-inside-place : goal.bounds-self-inside-place
bounds-self-inside-place c =
    let i = c.self.inside in
    let at = λ (k : ℕ). split_at i.count (slice_index_or i.paths.now k unit) in
    let size = length-map i.places.now at in
    let whole = ap (λ (l : List MultiArrow). length l) c.self.view_is in
    rw c.get-place.ensures (AreBelow-at (length i.paths.now) i.places.now c.args.i c.self.invariant (let l = c.requires in omega arith))

pub returns : goal.returns
returns c =
    let i = c.self.inside in
    let at = λ (k : ℕ). split_at i.count (slice_index_or i.paths.now k unit) in
    let size = length-map i.places.now at in
    let whole = ap (λ (l : List MultiArrow). length l) c.self.view_is in
    let within : c.args.i < length i.places.now = (let l = c.requires in omega arith) in
    let below = AreBelow-at (length i.paths.now) i.places.now c.args.i c.self.invariant within in
    ap (λ (l : List MultiArrow). slice_get l c.args.i) (sym c.self.view_is)
    ∙ slice_get-map at i.places.now c.args.i
    ∙ ap (option_map at) (slice_get-get_or i.places.now c.args.i 0 within)
    ∙ ap Some (ap (split_at i.count) (get_or_default i.paths.now (slice_index_or i.places.now c.args.i 0) unit c.index-self-place.result below
    ∙ ap (λ (k : ℕ). slice_index_or i.paths.now k c.index-self-place.result) (sym c.get-place.ensures)) ∙ sym c.new.ensures)

pub offset_bounds-self-inside-place : goal.offset_bounds-self-inside-place
offset_bounds-self-inside-place c =
    let i = c.self.inside in
    let at = λ (k : ℕ). split_at i.count (slice_index_or i.paths.now k unit) in
    let size = length-map i.places.now at in
    let whole = ap (λ (l : List MultiArrow). length l) c.self.view_is in
    let below = AreBelow-at (length i.paths.now) i.places.now c.args.i c.self.invariant (let l = c.requires in omega arith) in
    search rules
