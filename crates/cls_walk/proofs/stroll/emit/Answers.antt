use Rattle.std.proofs.Common.{ℕ, ◌-◌, ◌++◌, ◌∷◌, [], List, map, ap, inl, inr, append-nil, rules, sym, ◌∙◌}
use Rattle.cls_walk.specs.FrameColumns.{place_of}
use Rattle.cls_walk.specs.FrameHeaps.{mark_of, places_at}
use Rattle.cls_walk.specs.declared.walk.Walk.{Walk}
use Rattle.cls_walk.proofs.FrameStrolls.{stroll-none, stroll-one}
use Rattle.cls_walk.proofs.Replays.{remembers-grown}
use Rattle.cls_walk.proofs.Walks.{true_no_false}
use Rattle.cls_walk.proofs.stroll.emit.Goals as goal
use Rattle.cls_walk.proofs.stroll.emit.Goals.{then-size-eq0+then-cursor+then-is_complete+in_ok-push, else-size-eq0, else-size-eq0-via-then-size-eq0+then-cursor+else-is_complete, else-size-eq0-via-then-size-eq0+else-cursor, else-size-eq0-via-else-size-eq0}

pub returns-clause-listed : goal.returns-clause-listed
returns-clause-listed c = λ book cost room f alone whole.
    let old = c.args.walk.now in
    let new = c.if-size-eq0.walk in
    let frames = c.args.frames.now in
    let top = c.args.top in
    let r = c.requires in
    let seen = map place_of c.places_on-places.result.now in
    let p = c.places_on-places.ensures ∙ (λ i. places_at (map place_of (c.as_slice-2.ensures.value i)) 0 (map mark_of (c.as_slice.ensures.value i)) (top - 1)) in
    elim c.if-size-eq0.branch [
      | then-size-eq0+then-cursor+then-is_complete+in_ok-push w ↦ stroll-one book cost c.args.plan.now.guide.start frames top c.args.size room f c.args.cursor r.frames r.some r.within alone whole seen p old new _
          w.if-size-eq0.true (w.is_complete.ensures.0 w.if-is_complete.true) w.if-cursor.true
          (ap (λ (v : Walk). v.codes) w.walk-is ∙ w.in_ok-push.ensures.ok
          ∙ ap (λ (x : List ℕ). old.codes ++ x ∷ []) w.as_slice-then-is_complete.ensures.value)
      | else-size-eq0 w ↦
          let n = stroll-none book cost c.args.plan.now.guide.start frames top c.args.size room f c.args.cursor r.frames r.some r.within alone whole seen p old new _ in
          let e = ap (λ (v : Walk). v.codes) w.walk-is in
          elim w.else-size-eq0.branch [
            | else-size-eq0-via-then-size-eq0+then-cursor+else-is_complete u ↦ n (inl (λ s i. true_no_false (sym (u.is_complete.ensures.1 i) ∙ u.if-is_complete.false))) e
            | else-size-eq0-via-then-size-eq0+else-cursor u ↦ n (inr u.if-cursor.false) e
            | else-size-eq0-via-else-size-eq0 u ↦ n (inl (λ s i. u.if-size-eq0.false s)) e
          ]
    ]

pub returns-clause-back : goal.returns-clause-back
returns-clause-back c =
    let old = c.args.walk.now in
    let new = c.if-size-eq0.walk in
    let grown = remembers-grown c.args.plan.now old new in
    record {
      awaited = search rules;
      code = search rules;
      few = search rules;
      full = search rules;
      remembers = elim c.if-size-eq0.branch [
        | then-size-eq0+then-cursor+then-is_complete+in_ok-push w ↦ grown (old.code.items ∷ []) (ap (λ (v : Walk). v.known) w.walk-is)
            (ap (λ (v : Walk). v.codes) w.walk-is ∙ w.in_ok-push.ensures.ok
            ∙ ap (λ (x : List ℕ). old.codes ++ x ∷ []) w.as_slice-then-is_complete.ensures.value)
        | else-size-eq0 w ↦ grown [] (ap (λ (v : Walk). v.known) w.walk-is) (ap (λ (v : Walk). v.codes) w.walk-is ∙ sym (append-nil old.codes))
      ];
    }
