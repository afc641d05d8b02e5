use Rattle.std.proofs.Common.{ℕ, ◌≡◌, length, get_or, take, subst, sym, ap, ◌∙◌, arith, List, [], Some}
use Rattle.std.specs.Prelude.{slice_get}
use Rattle.std.proofs.lemmas.List.{take_more, take_all}
use Rattle.std.proofs.lemmas.Option.{get_or_from_slice_get}
use Rattle.cls_base.proofs.Lists.{AreBelow-at}
use Rattle.cls_path.specs.Paths.{TypePath, none, listed, type_of_paths}
use Rattle.cls_path.specs.Seen.{paths_of_source}
use Rattle.cls_library.specs.Arrows.{MultiArrow}
use Rattle.cls_check.specs.Arguments.{no_arrow}
use Rattle.cls_check.specs.Places.{arrows_in}
use Rattle.cls_check.proofs.Arguments.{AreTaken, taken_none, taken_more, taken_same, taken_form, found_source, no_source}
use Rattle.cls_check.proofs.Arrows.{takes_normal}
use Rattle.cls_check.proofs.Order.{form_by}
use Rattle.cls_check.proofs.argument.argument.Goals as goal
use Rattle.cls_check.proofs.argument.argument.Goals.{in-Some+in_ok-copy_onto-in-Some, in-None}

pub loop-position-init : goal.loop-position-init
loop-position-init c = subst (λ (ps : List TypePath). AreTaken c.args.lib.now (arrows_in c.args.lib.now c.args.place) [] c.args.number ps) (sym c.new-paths.ensures.items) (taken_none c.args.lib.now (arrows_in c.args.lib.now c.args.place) c.args.number)

pub get-requires : goal.get-requires
get-requires c =
    let m = AreBelow-at (length (arrows_in c.args.lib.now c.args.place)) c.args.positions.now c.loop-position.position-index c.requires.within c.loop-position-test.true in
    let e = ap (λ (q : List MultiArrow). length q) c.arrows-arrows.ensures.arrows in omega arith

pub loop-position-preserved : goal.loop-position-preserved
loop-position-preserved c =
    let l = c.args.lib.now in
    let arrows = arrows_in l c.args.place in
    let s = c.args.positions.now in
    let j = c.loop-position.position-index in
    let k = get_or s j 0 in
    let i = c.args.number in
    let a = c.get.result in
    let at : slice_get arrows k ≡ Some a = ap (λ (q : List MultiArrow). slice_get q k) (sym c.arrows-arrows.ensures.arrows) ∙ c.get.ensures in
    let same : a ≡ get_or arrows k no_arrow = sym (get_or_from_slice_get arrows k a no_arrow at) in
    subst (λ (t : List ℕ). AreTaken l arrows t i c.match-source.paths.items) (sym (take_more s j 0 c.loop-position-test.true))
    (elim c.match-source.branch [
      | in-Some+in_ok-copy_onto-in-Some w ↦ (
          let e = found_source a i c.source.result w.in-Some.source c.source.ensures w.in-Some.is ∙ ap (λ (b : MultiArrow). get_or b.sources i none) same in
          rw w.paths-is
          (taken_more l arrows (take j s) k i c.loop-position.paths.items c.loop-position.invariant (paths_of_source w.in-Some.source) w.copy_onto.new.paths.items e w.in_ok-copy_onto-in-Some.ensures (takes_normal l c.args.place.component c.args.place.n k i c.arrows-arrows.ensures.library c.requires.place.declared)))
      | in-None w ↦ (
          let e = no_source a i c.source.result c.source.ensures w.in-None.is ∙ ap (λ (b : MultiArrow). get_or b.sources i none) same in
          rw w.paths-is (taken_same l arrows (take j s) k i c.loop-position.paths.items c.loop-position.invariant e))
    ])

pub returns : goal.returns
returns c =
    let l = c.args.lib.now in
    let arrows = arrows_in l c.args.place in
    let all : take c.loop-position.position-index c.args.positions.now ≡ c.args.positions.now = take_all c.loop-position.position-index c.args.positions.now (omega arith) in
    let taken = subst (λ (t : List ℕ). AreTaken l arrows t c.args.number c.loop-position.paths.items) all c.loop-position.invariant in
    taken_form l arrows c.args.positions.now c.args.number c.loop-position.paths.items c.in_ok-from_paths.field-0 taken (form_by l c.taxonomy.result.now c.taxonomy.ensures (type_of_paths (listed c.loop-position.paths.items)) (listed c.in_ok-from_paths.field-0) c.in_ok-from_paths.ensures)
