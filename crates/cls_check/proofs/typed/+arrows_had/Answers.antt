use Rattle.std.proofs.Common.{◌≡◌, ◌-◌, ◌↔◌, Contains, List, length, take, drop, sym, subst, arith}
use Rattle.std.specs.Prelude.{slice_index_or}
use Rattle.cls_base.proofs.Lists.{Contains-from_map}
use Rattle.cls_path.specs.Paths.{Paths}
use Rattle.cls_library.specs.Arrows.{MultiArrow}
use Rattle.cls_check.specs.Asking.{goals_of}
use Rattle.cls_check.specs.Deciding.{AllSuitIn, AreSuited, IsDecided, IsLeading, source_of, targets_of}
use Rattle.cls_check.proofs.Codes.{opened, shorter, halfway_first, halfway_more, halfway_none, halfway_last, halfway_suits, halfway_begins, next_begins, none_decided}
use Rattle.cls_check.proofs.Deciding.{are_suited}
use Rattle.cls_check.proofs.Keeping.{none_kept}
use Rattle.cls_check.proofs.typed.+arrows_had.Goals as goal

pub arity-requires : goal.arity-requires
arity-requires t c = (opened c.args.lib.now c.count-components.ensures.library c.args.code.now c.requires.declared).1

pub arrows-requires-clause-declared : goal.arrows-requires-clause-declared
arrows-requires-clause-declared t c = (opened c.args.lib.now c.count-components.ensures.library c.args.code.now c.requires.declared).1

pub behind_terms-requires : goal.behind_terms-requires
behind_terms-requires t c =
    let o = opened c.args.lib.now c.count-components.ensures.library c.args.code.now c.requires.declared in
    (o.0.args, o.0.behind, o.0.many, o.2)

pub returns-then-count-arity : goal.returns-then-count-arity
returns-then-count-arity t c =
    let o = opened c.args.lib.now c.count-components.ensures.library c.args.code.now c.requires.declared in
    let over = c.if-count-arity.true in
    subst (λ (kept : List MultiArrow). IsDecided c.args.lib.now (goals_of c.args.asked.now) c.args.code.now c.behind_terms.result.now (targets_of kept)) (sym c.none-none.ensures)
    (none_decided c.args.lib.now c.count-components.ensures.library c.args.code.now (slice_index_or c.args.code.now 0 0) (slice_index_or c.args.code.now 1 0) (goals_of c.args.asked.now) c.requires.suits
    o.0 (take (length c.args.code.now - 2) (drop 2 c.args.code.now)) c.behind_terms.result.now o.2 (omega (arith, over, c.arity.ensures)) c.behind_terms.ensures)

pub arrows-requires-2-clause-declared : goal.arrows-requires-2-clause-declared
arrows-requires-2-clause-declared t c = (opened c.args.lib.now c.count-components.ensures.library c.args.code.now c.requires.declared).1

pub leading-requires-clause-place : goal.leading-requires-clause-place
leading-requires-clause-place t c =
    let declared = (opened c.args.lib.now c.count-components.ensures.library c.args.code.now c.requires.declared).1 in
    let few = c.if-count-arity.false in
    record { declared = declared; within = omega (arith, few, c.arity.ensures) }

pub leading-requires-clause-same : goal.leading-requires-clause-same
leading-requires-clause-same t c = c.arrows-2.ensures.arrows

pub leading-requires-clause-arrows : goal.leading-requires-clause-arrows
leading-requires-clause-arrows t c =
    subst (λ (arrows : List MultiArrow). AreSuited c.args.lib.now arrows) (sym c.arrows-2.ensures.arrows)
    (are_suited c.args.lib.now c.count-components.ensures.library (slice_index_or c.args.code.now 0 0) (slice_index_or c.args.code.now 1 0))

pub loop-place-init : goal.loop-place-init
loop-place-init t c =
    let o = opened c.args.lib.now c.count-components.ensures.library c.args.code.now c.requires.declared in
    halfway_first c.args.lib.now c.count-components.ensures.library c.args.code.now (slice_index_or c.args.code.now 0 0) (slice_index_or c.args.code.now 1 0) (goals_of c.args.asked.now)
    (take (length c.args.code.now - 2) (drop 2 c.args.code.now)) c.in_ok-kept.kept o.0 o.2
    (subst (λ (arrows : List MultiArrow). (a : MultiArrow) → Contains c.in_ok-kept.kept a ↔ (Contains arrows a × IsLeading c.args.lib.now (goals_of c.args.asked.now) a.target)) c.arrows-2.ensures.arrows c.in_ok-kept.ensures)

pub behind_terms-requires-then-is_empty : goal.behind_terms-requires-then-is_empty
behind_terms-requires-then-is_empty t c =
    halfway_begins c.args.lib.now c.args.code.now (slice_index_or c.args.code.now 0 0) (slice_index_or c.args.code.now 1 0) (goals_of c.args.asked.now)
    c.loop-place.place c.loop-place.rest.now c.loop-place.kept c.loop-place.invariant

pub returns-then-is_empty : goal.returns-then-is_empty
returns-then-is_empty t c =
    let none : length c.loop-place.kept ≡ 0 = none_kept (length c.loop-place.kept) c.is_empty.result c.is_empty.ensures c.if-is_empty.true in
    let few = c.if-count-arity.false in
    let here = c.loop-place-test.true in
    halfway_none c.args.lib.now c.count-components.ensures.library c.args.code.now (slice_index_or c.args.code.now 0 0) (slice_index_or c.args.code.now 1 0) (goals_of c.args.asked.now) c.requires.suits
    c.loop-place.place (slice_index_or c.args.code.now 1 0 - c.loop-place.place) c.loop-place.rest.now c.behind_terms-then-is_empty.result.now c.loop-place.kept c.loop-place.invariant
    (omega (arith, here)) none (omega (arith, few, c.arity.ensures)) c.behind_terms-then-is_empty.ensures

pub arrows_had-requires : goal.arrows_had-requires
arrows_had-requires t c =
    let law = c.count-components.ensures.library in
    let head = slice_index_or c.args.code.now 0 0 in
    let count = slice_index_or c.args.code.now 1 0 in
    let suited : AreSuited c.args.lib.now c.loop-place.kept = halfway_suits c.args.lib.now law c.args.code.now head count (goals_of c.args.asked.now) c.loop-place.place c.loop-place.rest.now c.loop-place.kept c.loop-place.invariant in (
      omega (arith, c.decreases, shorter c.args.lib.now c.args.code.now head count (goals_of c.args.asked.now) c.loop-place.place c.loop-place.rest.now c.loop-place.kept c.loop-place.invariant),
      (
        next_begins c.args.lib.now law c.args.code.now head count (goals_of c.args.asked.now) c.loop-place.place c.loop-place.rest.now c.loop-place.kept c.loop-place.invariant c.loop-place-test.true,
        (λ n m.
            let r = Contains-from_map (λ (a : MultiArrow). source_of a c.loop-place.place) c.loop-place.kept n m in
            subst (λ (k : Paths). AllSuitIn c.args.lib.now k) (sym r.2) (suited.sources r.0 c.loop-place.place r.1)),
      ),
    )

pub keep_with_source-requires-clause-arrows : goal.keep_with_source-requires-clause-arrows
keep_with_source-requires-clause-arrows t c =
    halfway_suits c.args.lib.now c.count-components.ensures.library c.args.code.now (slice_index_or c.args.code.now 0 0) (slice_index_or c.args.code.now 1 0) (goals_of c.args.asked.now)
    c.loop-place.place c.loop-place.rest.now c.loop-place.kept c.loop-place.invariant

pub loop-place-preserved : goal.loop-place-preserved
loop-place-preserved t c =
    halfway_more c.args.lib.now c.count-components.ensures.library c.args.code.now (slice_index_or c.args.code.now 0 0) (slice_index_or c.args.code.now 1 0) (goals_of c.args.asked.now)
    c.loop-place.place c.loop-place.rest.now c.in_ok-had.behind.now c.loop-place.kept c.keep_with_source.new.kept (targets_of c.in_ok-had.had)
    c.loop-place.invariant c.loop-place-test.true c.in_ok-had.ensures c.keep_with_source.ensures

pub returns : goal.returns
returns t c =
    let few = c.if-count-arity.false in
    let end : c.loop-place.place ≡ slice_index_or c.args.code.now 1 0 = omega (arith, c.loop-place-test.false, c.loop-place.auto.place-end) in
    halfway_last c.args.lib.now c.count-components.ensures.library c.args.code.now (slice_index_or c.args.code.now 0 0) (slice_index_or c.args.code.now 1 0) (goals_of c.args.asked.now) c.requires.suits
    c.loop-place.place c.loop-place.rest.now c.loop-place.kept c.loop-place.invariant end (omega (arith, few, c.arity.ensures))
