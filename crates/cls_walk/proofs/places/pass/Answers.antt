use Rattle.std.proofs.Common.{◌≡◌, ◌∙◌, ◌+◌, [], List, take, Vec, Global, map, subst, sym, ap, get_or}
use Rattle.cls_walk.proofs.FrameColumns.{no-made, passed-in, passed-out, apart}
use Rattle.cls_walk.specs.FrameColumns.{place_of, made_of, Grows, IsPassed}
use Rattle.cls_walk.specs.declared.places.Place.{Place}
use Rattle.cls_walk.proofs.places.pass.Goals as goal
use Rattle.cls_walk.proofs.places.pass.Goals.{then-is_complete+in_ok-add_complete, else-is_complete}

pub loop-pair-preserved : goal.loop-pair-preserved
loop-pair-preserved c =
    let above = map place_of c.args.above.now in
    let mades = c.args.made.now in
    let i = c.loop-pair.pair-index in
    let old = c.args.places.now.items in
    let here = c.loop-pair.places.items in
    let l = c.loop-pair-test.true in
    elim c.if-is_complete.branch [
      | then-is_complete+in_ok-add_complete w ↦
          let e = ap (λ (v : Vec Place Global). v.items) w.places-is in
          let P : List Place → Type 0 = λ ps. Grows (λ q. q ≡ ((get_or mades i no-made).node, [])) here ps in
          passed-in above mades i old here c.if-is_complete.places.items l c.loop-pair.invariant (c.is_complete.ensures.0 w.if-is_complete.true) (subst P (sym e) w.in_ok-add_complete.ensures)
      | else-is_complete w ↦
          let e = ap (λ (v : Vec Place Global). v.items) w.places-is in
          let Q : List Place → Type 0 = λ ps. Grows (IsPassed (map made_of (take (i + 1) mades)) above) old ps in
          subst Q (sym e) (passed-out above mades i old here l c.loop-pair.invariant (λ j. apart (sym (c.is_complete.ensures.1 j) ∙ w.if-is_complete.false)))
    ]
