use Rattle.std.proofs.Common.{◌≡◌, ◌<◌, ◌≤◌, length, get_or, Some, List, [], sym, ◌∙◌, subst, ap, arith}
use Rattle.std.specs.Prelude.{map, slice_get}
use Rattle.std.specs.List.{AllZip}
use Rattle.cls_base.proofs.Lists.{take_whole}
use Rattle.cls_taxon.specs.Orders.{Declared}
use Rattle.cls_path.specs.Paths.{TypePath, Paths, SuitsAll, listed, type_of_paths}
use Rattle.cls_path.specs.NormalForms.{EachCanonical, IsNormalForm}
use Rattle.cls_library.specs.Arrows.{MultiArrow}
use Rattle.cls_library.specs.Libraries.{arrows_at, below_in, variances_in}
use Rattle.cls_library.specs.Reaching.{IsReduced, columns}
use Rattle.cls_expand.specs.Making.{gathered, picked_of}
use Rattle.cls_expand.proofs.Places.{on_ok_map}
use Rattle.cls_expand.proofs.Sources.{gather_suits, gather_canonical, argument_step, columns_size, rule_made, own_sources, picked_one, first_in_cover, picked_long}
use Rattle.cls_expand.proofs.arguments.arguments.Goals as goal

pub gather-requires : goal.gather-requires
gather-requires c = λ i m. subst (λ (arrows : List MultiArrow). i < length arrows) (sym c.arrows-arrows.ensures.arrows) (c.requires.below i m)

pub from_paths-requires-clause-suits : goal.from_paths-requires-clause-suits
from_paths-requires-clause-suits c = subst (λ (t : Declared). SuitsAll (variances_in t) (listed c.in_ok-paths.paths.items)) (sym c.taxonomy.ensures)
    (gather_suits c.args.lib.now c.arrows-arrows.ensures.library c.args.x c.args.count c.args.cover.now c.requires.below c.loop-place.place (listed c.in_ok-paths.paths.items)
    (c.in_ok-paths.ensures ∙ ap (λ (arrows : List MultiArrow). gathered c.loop-place.place (picked_of arrows c.args.cover.now)) c.arrows-arrows.ensures.arrows))

pub from_paths-requires-clause-canonical : goal.from_paths-requires-clause-canonical
from_paths-requires-clause-canonical c = subst (λ (t : Declared). EachCanonical (below_in t) (variances_in t) (listed c.in_ok-paths.paths.items)) (sym c.taxonomy.ensures)
    (gather_canonical c.args.lib.now c.arrows-arrows.ensures.library c.args.x c.args.count c.args.cover.now c.requires.below c.loop-place.place (listed c.in_ok-paths.paths.items)
    (c.in_ok-paths.ensures ∙ ap (λ (arrows : List MultiArrow). gathered c.loop-place.place (picked_of arrows c.args.cover.now)) c.arrows-arrows.ensures.arrows))

pub loop-place-init : goal.loop-place-init
loop-place-init c = subst (λ (ns : List (List TypePath)). AllZip (IsReduced c.args.lib.now) [] (map listed ns)) (sym c.clear.ensures.items) tt

pub loop-place-preserved : goal.loop-place-preserved
loop-place-preserved c =
    argument_step c.args.lib.now c.arrows-arrows.ensures.library c.args.x c.args.count c.args.cover.now c.requires.below c.loop-place.place c.loop-place.args.items c.push.new.self.items (listed c.in_ok-paths.paths.items) c.in_ok-from_paths.field-0
    c.loop-place-test.true (c.in_ok-paths.ensures ∙ ap (λ (arrows : List MultiArrow). gathered c.loop-place.place (picked_of arrows c.args.cover.now)) c.arrows-arrows.ensures.arrows)
    (subst (λ (t : Declared). IsNormalForm (below_in t) (variances_in t) (type_of_paths (listed c.in_ok-paths.paths.items)) (listed c.in_ok-from_paths.field-0)) c.taxonomy.ensures c.in_ok-from_paths.ensures)
    c.in_ok-push.ensures.items c.loop-place.invariant

pub returns : goal.returns
returns c =
    let size : length (columns c.args.count (picked_of (arrows_at c.args.lib.now c.args.x c.args.count) c.args.cover.now)) ≡ c.args.count = columns_size c.args.lib.now c.arrows-arrows.ensures.library c.args.x c.args.count c.args.cover.now c.requires.below in
    let t : c.args.count ≤ c.loop-place.place = c.loop-place-test.false in
    rule_made c.args.lib.now c.arrows-arrows.ensures.library c.args.x c.args.count c.args.cover.now c.requires.below (map listed c.loop-place.args.items)
    (subst (λ (cols : List Paths). AllZip (IsReduced c.args.lib.now) cols (map listed c.loop-place.args.items)) (take_whole (columns c.args.count (picked_of (arrows_at c.args.lib.now c.args.x c.args.count) c.args.cover.now)) c.loop-place.place (omega arith)) c.loop-place.invariant)

pub get-requires : goal.get-requires
get-requires c = subst (λ (arrows : List MultiArrow). get_or c.args.cover.now 0 0 < length arrows) (sym c.arrows-arrows.ensures.arrows) (c.requires.below (get_or c.args.cover.now 0 0) (first_in_cover c.args.cover.now c.in-len1.len_at_least))

pub sources-requires : goal.sources-requires
sources-requires c =
    picked_long c.args.lib.now c.arrows-arrows.ensures.library c.args.x c.args.count c.args.cover.now c.requires.below c.get.result
    (picked_one (arrows_at c.args.lib.now c.args.x c.args.count) c.args.cover.now c.get.result c.in-len1.len_at_least c.in-len1.len_below
    (subst (λ (arrows : List MultiArrow). slice_get arrows (get_or c.args.cover.now 0 0) ≡ Some c.get.result) c.arrows-arrows.ensures.arrows c.get.ensures))

pub returns-in-len1 : goal.returns-in-len1
returns-in-len1 c =
    let e = picked_one (arrows_at c.args.lib.now c.args.x c.args.count) c.args.cover.now c.get.result c.in-len1.len_at_least c.in-len1.len_below
    (subst (λ (arrows : List MultiArrow). slice_get arrows (get_or c.args.cover.now 0 0) ≡ Some c.get.result) c.arrows-arrows.ensures.arrows c.get.ensures) in
    on_ok_map c.sources.result
    (λ (same : map listed c.sources.new.args.items ≡ c.get.result.sources).
    rule_made c.args.lib.now c.arrows-arrows.ensures.library c.args.x c.args.count c.args.cover.now c.requires.below (map listed c.sources.new.args.items)
    (subst (λ (ns : List Paths). AllZip (IsReduced c.args.lib.now) (columns c.args.count (picked_of (arrows_at c.args.lib.now c.args.x c.args.count) c.args.cover.now)) ns) (sym same)
    (own_sources c.args.lib.now c.arrows-arrows.ensures.library c.args.x c.args.count c.args.cover.now c.requires.below c.get.result e)))
    c.sources.ensures
