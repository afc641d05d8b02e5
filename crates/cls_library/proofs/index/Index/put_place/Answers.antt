use Rattle.std.proofs.Common.{ℕ, ◌≡◌, ◌+◌, ◌≤◌, List, Some, length, get_or, rules, subst, ap, ◌∙◌, arith}
use Rattle.std.specs.Prelude.{slice_get}
use Rattle.std.proofs.lemmas.List.{get_or_default}
use Rattle.cls_library.specs.declared.ending.Ending.{Ending}
use Rattle.cls_library.specs.Arrows.{MultiArrow, arrows_of}
use Rattle.cls_library.specs.Endings.{ending_of}
use Rattle.cls_library.specs.Index.{PutsIf, arrows_in, entries_for, is_ending, spot_at}
use Rattle.cls_library.specs.Libraries.{Component, no_component}
use Rattle.cls_library.proofs.Indexing.{entries-same, index-more, same-place_end}
use Rattle.cls_library.proofs.index.Index.put_place.Goals as goal

pub loop-i-preserved : goal.loop-i-preserved
loop-i-preserved c =
    let cs = c.args.components.now in
    let x = c.args.place.component in
    let n = c.args.place.count in
    let i = c.loop-i.i in
    let ending = c.of-ending.result in
    let old = c.loop-i.self in
    let new = c.put.new.self in
    let is : c.index-components-place.result ≡ get_or cs x no_component = c.index-components-place.is ∙ get_or_default cs x c.index-components-place.result no_component c.requires.declared in
    let same : c.arrows-arrows.result ≡ arrows_in cs c.args.place = c.arrows-arrows.ensures ∙ ap (λ (d : Component). arrows_of n d.paths) is in
    let at : slice_get (arrows_in cs c.args.place) i ≡ Some c.get.result = subst (λ (arrows : List MultiArrow). slice_get arrows i ≡ Some c.get.result) same c.get.ensures in
    let end : ending ≡ ending_of c.get.result.target = c.of-ending.ensures ∙ ap ending_of c.target.ensures in
    let p : c.in-Ok.position ≡ i = search rules in
    let put : (e : Ending) → PutsIf (is_ending ending e) c.args.place i (entries_for old e) (entries_for new e)
    = subst (λ (k : ℕ). (e : Ending) → PutsIf (is_ending ending e) c.args.place k (entries_for old e) (entries_for new e)) p c.in_ok-put.ensures in
    index-more cs x n i ending c.get.result at end old new put c.loop-i.invariant

pub returns : goal.returns
returns c =
    let cs = c.args.components.now in
    let x = c.args.place.component in
    let n = c.args.place.count in
    let i = c.loop-i.i in
    let is : c.index-components-place.result ≡ get_or cs x no_component = c.index-components-place.is ∙ get_or_default cs x c.index-components-place.result no_component c.requires.declared in
    let same : length c.arrows-arrows.result ≡ length (arrows_in cs c.args.place) = ap length (c.arrows-arrows.ensures ∙ ap (λ (d : Component). arrows_of n d.paths) is) in
    let a = c.len-i-end.ensures in
    let b = c.loop-i-test.false in
    let all : length (arrows_in cs c.args.place) ≤ i = omega arith in
    entries-same cs (spot_at x n i) (spot_at x (n + 1) 0) (same-place_end cs x n i all) c.loop-i.self c.loop-i.invariant
