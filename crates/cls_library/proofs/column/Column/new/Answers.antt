use Rattle.std.proofs.Common.{◌≡◌, ◌+◌, ◌≤◌, min, get_or, refl, arith}
use Rattle.std.specs.Prelude.{slice_index_or}
use Rattle.std.proofs.lemmas.List.{get_or_default}
use Rattle.cls_base.specs.Limits.{max_arity}
use Rattle.cls_path.specs.Paths.{unit}
use Rattle.cls_library.specs.Arrows.{leading_arrows}
use Rattle.cls_library.specs.declared.ending.Ending.{Ending}
use Rattle.cls_library.specs.declared.ending.Head.TheVariants.{Covariant}
use Rattle.cls_base.proofs.Lists.{Contains-at}
use Rattle.cls_library.specs.Endings.{ending_of}
use Rattle.cls_library.proofs.EndingLaws.{place-within, kind-within, kind-arrows, kind-at}
use Rattle.cls_library.proofs.Places.{numbers-places, places-more, places-skip, places-all}
use Rattle.cls_library.proofs.column.Column.new.Goals as goal
use Rattle.cls_library.proofs.column.Column.new.Goals.{then-kind-count+in_ok-push, else-kind-count}

pub returns-then-have_all : goal.returns-then-have_all
returns-then-have_all c =
    let kinds = c.args.kinds.now in
    let ks = c.args.endings.now in
    let ps = c.args.paths.now in
    numbers-places c.args.count 0 ps (λ k l.
    let e = ending_of (slice_index_or ps k unit) in
    let few : c.args.count ≤ e.arrows = c.have_all.ensures c.if-have_all.true e (Contains-at kinds (get_or ks k 0) e (kind-at kinds ks ps k c.requires.endings l).1) in
    let m : e.arrows ≡ min (max_arity + 1) (leading_arrows (slice_index_or ps k unit)) = refl in
    omega arith)

pub bounds-endings-i : goal.bounds-endings-i
bounds-endings-i c = place-within c.args.kinds.now c.args.endings.now c.args.paths.now c.loop-i.i c.requires.endings c.loop-i-test.true

pub bounds-kinds-endings : goal.bounds-kinds-endings
bounds-kinds-endings c = kind-within c.args.kinds.now c.args.endings.now c.args.paths.now c.loop-i.i c.requires.endings c.loop-i-test.true

pub loop-i-preserved : goal.loop-i-preserved
loop-i-preserved c =
    let ps = c.args.paths.now in
    let i = c.loop-i.i in
    let p = slice_index_or ps i unit in
    let is : p ≡ get_or ps i p = get_or_default ps i unit p c.loop-i-test.true in
    let few = c.requires.few in
    let none : Ending = record { arrows = 0; head = Covariant (record { 0 = 0 }) } in
    let arrows : (get_or c.args.kinds.now (get_or c.args.endings.now i 0) none).arrows ≡ min (max_arity + 1) (leading_arrows p) = kind-arrows c.args.kinds.now c.args.endings.now ps i c.requires.endings c.loop-i-test.true none in
    elim c.if-kind-count.branch [
      | then-kind-count+in_ok-push w ↦ (let test = w.if-kind-count.true in
          rw (w.places-is, w.in_ok-push.ensures.items) (places-more c.args.count ps i p c.loop-i-test.true is c.loop-i.places.items _ c.loop-i.invariant (omega (arith, arrows, test, few))))
      | else-kind-count w ↦ (let test = w.if-kind-count.false in
          rw w.places-is (places-skip c.args.count ps i p c.loop-i-test.true is c.loop-i.places.items _ c.loop-i.invariant (omega (arith, arrows, test, few))))
    ]

pub returns : goal.returns
returns c = places-all c.args.count c.args.paths.now c.loop-i.i c.loop-i.places.items _ c.loop-i-test.false c.loop-i.invariant

pub offset_bounds-kinds-endings : goal.offset_bounds-kinds-endings
offset_bounds-kinds-endings c =
    let within = kind-within c.args.kinds.now c.args.endings.now c.args.paths.now c.loop-i.i c.requires.endings c.loop-i-test.true in
    omega (arith, within)
