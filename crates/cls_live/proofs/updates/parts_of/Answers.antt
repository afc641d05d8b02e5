use Rattle.std.proofs.Common.{◌≡◌, ◌<◌, ◌≤◌, List, get_or, length, slice_get, subst, sym, refl, arith}
use Rattle.cls_core.proofs.Columns.{get-some}
use Rattle.cls_expand.proofs.Adding.{with-answer}
use Rattle.cls_live.specs.declared.known.Part.{Part}
use Rattle.cls_live.specs.Updates.{AreUpdates, PutsPart}
use Rattle.cls_live.proofs.Updating.{none_put, one_put}
use Rattle.cls_live.proofs.updates.parts_of.Goals as goal

pub loop-row-init : goal.loop-row-init
loop-row-init c =
    subst (λ (parts : List Part). AreUpdates c.args.live.now c.args.next c.args.known.now c.args.rows.now c.args.numbers.now 0 parts) (sym c.new-parts.ensures.items)
    (none_put c.args.live.now c.args.next c.args.known.now c.args.rows.now c.args.numbers.now)

pub bounds-numbers-row : goal.bounds-numbers-row
bounds-numbers-row c =
    let t : c.loop-row.row < c.count-row-end.result = c.loop-row-test.true in
    let n : c.count-row-end.result ≡ length c.args.rows.now = c.count-row-end.ensures in
    let same : length c.args.numbers.now ≡ length c.args.rows.now = c.requires in
    omega arith

pub loop-row-preserved : goal.loop-row-preserved
loop-row-preserved c =
    let rows = c.args.rows.now in
    let numbers = c.args.numbers.now in
    let i = c.loop-row.row in
    let t : i < c.count-row-end.result = c.loop-row-test.true in
    let n : c.count-row-end.result ≡ length rows = c.count-row-end.ensures in
    let r = get-some rows i (omega arith) in
    let is = with-answer (slice_get rows i) r.0 c.answer.result.now r.1 c.answer.ensures in
    let put = subst (λ a. PutsPart c.args.live.now numbers c.args.next c.end_of-end.result (get_or numbers i 0) a c.loop-row.parts.items c.put_part.new.parts.items) (sym is) c.in_ok-put_part.ensures in
    one_put c.args.live.now c.args.next c.args.known.now rows numbers i c.loop-row.parts.items r.0 r.1 c.loop-row.invariant c.put_part.new.parts.items (get_or numbers i 0) c.end_of-end.result
    refl c.end_of-end.ensures put

pub returns : goal.returns
returns c =
    let t : c.count-row-end.result ≤ c.loop-row.row = c.loop-row-test.false in
    let u : c.loop-row.row ≤ c.count-row-end.result = c.loop-row.auto.row-end in
    let n : c.count-row-end.result ≡ length c.args.rows.now = c.count-row-end.ensures in
    let k : c.loop-row.row ≡ length c.args.rows.now = omega arith in
    subst (λ n. AreUpdates c.args.live.now c.args.next c.args.known.now c.args.rows.now c.args.numbers.now n c.loop-row.parts.items) k c.loop-row.invariant
