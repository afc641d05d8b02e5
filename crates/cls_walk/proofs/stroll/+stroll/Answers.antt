use Rattle.std.proofs.Common.{◌≡◌, ℕ, ◌+◌, ◌-◌, ◌≤◌, ◌++◌, ◌∷◌, [], ◌<◌, List, length, take, map, true, false, ap, append_assoc, arith, refl, subst, sym, ◌∙◌}
use Rattle.std.specs.Prelude.{IfOk, Option, None, Some}
use Rattle.std.proofs.lemmas.List.{get_or_read, take_all}
use Rattle.cls_term.specs.Costs.{cost_of}
use Rattle.cls_walk.specs.FrameColumns.{place_of}
use Rattle.cls_walk.specs.FrameHeaps.{mark_of, places_at, stack_of}
use Rattle.cls_walk.specs.FrameGuides.{least_of}
use Rattle.cls_walk.specs.FrameLevels.{levels_of}
use Rattle.cls_walk.specs.FrameWalks.{BeginsTo, IsDueOn, IsOffered}
use Rattle.cls_walk.specs.Frames.{await_count, Frame}
use Rattle.cls_walk.specs.Openings.{no_opening, AreRising, ArePut, IsEarliest, IsGathered}
use Rattle.cls_walk.specs.Walks.{Lists}
use Rattle.cls_walk.specs.declared.opening.Opening.{Opening}
use Rattle.cls_walk.specs.declared.standing.Mark.{Mark}
use Rattle.cls_walk.specs.declared.walk.Walk.{Walk}
use Rattle.cls_walk.proofs.Earliest.{before-first, before-next, earliest-next, earliest-none, opening_before}
use Rattle.cls_walk.proofs.FrameHeaps.{frame_at, frames-same, get-any}
use Rattle.cls_walk.proofs.FramePlans.{aimed-code, aimed-grown, more-asks, whole-alone}
use Rattle.cls_walk.proofs.FrameLevels.{columns-same, same-refl, same-then}
use Rattle.cls_walk.proofs.FrameStrolls.{DueOn, stroll-end, stroll-into, stroll-next, stroll-stop, too-costly, too-many, too-soon}
use Rattle.cls_walk.proofs.Walks.{lists-none}
use Rattle.cls_walk.proofs.stroll.+stroll.Goals as goal
use Rattle.cls_walk.proofs.stroll.+stroll.Goals.{open_on-then-size-cost-via-then-size-cost, open_on-then-size-cost-via-else-size-cost+then-spare-opening}

-- the first opening on the stack stands behind those that were there
first-there : {t : ℕ} (c : goal.go_on-After-len-index-end t) → length c.args.ahead.now.offers.items ≡ c.len-first.result
first-there c = let e = c.len-first.ensures in let n = c.args.ahead.now.offers.ok.0 in omega (arith, e, n)

pub go_on-loop-index-init : goal.go_on-loop-index-init
go_on-loop-index-init t c =
    let old = c.args.ahead.now.offers.items in
    let offers = c.gather.new.offers.items in
    let first = c.len-first.result in
    let e = first-there c in
    let Put : ℕ → Type 0 = λ z. ArePut z old offers in
    let put = subst Put e c.in_ok-gather.ensures.put in
    record {
      frames = c.requires.frames;
      columns = c.requires.columns;
      here = record { marks = refl; places = refl };
      there = same-refl c.args.ahead.now.levels;
      before = put.before ∙ take_all first old (omega (arith, e));
      rising = put.rising;
      end = let l = c.len-index-end.ensures in let n = c.gather.new.offers.ok.0 in omega (arith, l, n);
      gathered = λ book right x k o. let P : ℕ → Type 0 = λ z. IsGathered z offers x k in subst P e (c.in_ok-gather.ensures.gathered book (cost_of c.args.plan.now.costs.now) right x k o);
      awaited = refl;
      code = refl;
      few = c.requires.few;
      remembers = λ m. m;
      listed = λ book most right all aimed few asks.
          let plan = c.args.plan.now in
          let Due : List ℕ → Type 0 = DueOn book (cost_of plan.costs.now) plan.guide.start (stack_of c.args.frames.now c.args.top) c.args.size c.args.spare c.args.cursor in
          let P : Option Opening → Type 0 = λ z. Lists (BeginsTo Due z) c.args.walk.now c.args.walk.now true in
          subst P (sym (before-first first offers)) (lists-none (BeginsTo Due None) c.args.walk.now (λ w h. h.done));
    }

pub go_on-returns-then-not-branch-clause-listed : goal.go_on-returns-then-not-branch-clause-listed
go_on-returns-then-not-branch-clause-listed t c = λ book most right all aimed few asks.
    let plan = c.args.plan.now in
    let cost = cost_of plan.costs.now in
    let f = c.args.frames.now in
    let l = c.args.ahead.now.levels in
    let here = c.loop-index in
    let inv = here.invariant in
    let first = c.len-first.result in
    let offers = here.ahead.offers.items in
    let i = here.index in
    let o = c.index-opening.result.now in
    let old = c.args.walk.now in
    let new = c.open_on.new.walk in
    let within : i < length offers = let e = inv.end in let m = c.loop-index-test.true in omega (arith, e, m) in
    let Offered : ℕ → ℕ → Type 0 = IsOffered book (least_of plan.guide) cost (levels_of l c.args.top) c.args.size c.args.spare in
    let P : Opening → Type 0 = λ z. IsEarliest Offered (opening_before first offers i) (Some z) in
    let earliest = subst P (sym (get_or_read offers i o within c.index-opening.ensures no_opening)) (earliest-next Offered first offers inv.rising (inv.gathered book right) i here.auto.index within) in
    let k = stroll-next book cost plan.guide right f l c.args.top most c.args.size c.args.spare c.args.cursor aimed few asks here.frames here.ahead.levels inv.here inv.there (opening_before first offers i) o old here.walk new c.in_ok-open_on.field-0 false c.if-not-branch.true inv.code earliest (inv.listed book most right all aimed few asks) all (c.in_ok-open_on.ensures.listed book most right) in
    stroll-stop book cost plan.guide right f l c.args.top most c.args.size c.args.spare c.args.cursor aimed few asks (Some o) old new k

pub go_on-loop-index-preserved : goal.go_on-loop-index-preserved
go_on-loop-index-preserved t c =
    let plan = c.args.plan.now in
    let cost = cost_of plan.costs.now in
    let f = c.args.frames.now in
    let l = c.args.ahead.now.levels in
    let here = c.loop-index in
    let inv = here.invariant in
    let first = c.len-first.result in
    let offers = here.ahead.offers.items in
    let i = here.index in
    let o = c.index-opening.result.now in
    let old = c.args.walk.now in
    let new = c.open_on.new.walk in
    let e = c.in_ok-open_on.ensures in
    let within : i < length offers = let n = inv.end in let m = c.loop-index-test.true in omega (arith, n, m) in
    let read = get_or_read offers i o within c.index-opening.ensures no_opening in
    record {
      frames = frames-same here.frames c.open_on.new.frames e.frames inv.frames;
      columns = columns-same here.ahead.levels c.open_on.new.ahead.levels e.levels inv.columns;
      here = record { marks = e.frames.marks ∙ inv.here.marks; places = e.frames.places ∙ inv.here.places };
      there = same-then l here.ahead.levels c.open_on.new.ahead.levels inv.there e.levels;
      before = ap (λ (os : List Opening). take first os) e.offers ∙ inv.before;
      rising = let P : List Opening → Type 0 = λ os. AreRising first os in subst P (sym e.offers) inv.rising;
      end = inv.end ∙ ap (λ (os : List Opening). length os) (sym e.offers);
      gathered = λ book right x k w. let P : List Opening → Type 0 = λ os. IsGathered first os x k in subst P (sym e.offers) (inv.gathered book right x k w);
      awaited = e.back.awaited ∙ inv.awaited;
      code = e.back.code ∙ inv.code;
      few = e.back.few c.if-not-branch.false;
      remembers = λ m. e.back.remembers (inv.remembers m);
      listed = λ book most right all aimed few asks.
          let Offered : ℕ → ℕ → Type 0 = IsOffered book (least_of plan.guide) cost (levels_of l c.args.top) c.args.size c.args.spare in
          let P : Opening → Type 0 = λ z. IsEarliest Offered (opening_before first offers i) (Some z) in
          let earliest = subst P (sym read) (earliest-next Offered first offers inv.rising (inv.gathered book right) i here.auto.index within) in
          let Due : List ℕ → Type 0 = DueOn book cost plan.guide.start (stack_of f c.args.top) c.args.size c.args.spare c.args.cursor in
          let Q : Option Opening → Type 0 = λ z. Lists (BeginsTo Due z) old new true in
          let R : List Opening → Type 0 = λ os. Lists (BeginsTo Due (opening_before first os (i + 1))) old new true in
          let k = stroll-next book cost plan.guide right f l c.args.top most c.args.size c.args.spare c.args.cursor aimed few asks here.frames here.ahead.levels inv.here inv.there (opening_before first offers i) o old here.walk new c.in_ok-open_on.field-0 true c.if-not-branch.false inv.code earliest (inv.listed book most right all aimed few asks) all (e.listed book most right) in
          subst R (sym e.offers) (subst Q (ap (λ (z : Opening). Some z) read ∙ sym (before-next first offers i here.auto.index)) k);
    }

pub go_on-returns-clause-listed : goal.go_on-returns-clause-listed
go_on-returns-clause-listed t c = λ book most right all aimed few asks.
    let plan = c.args.plan.now in
    let cost = cost_of plan.costs.now in
    let l = c.args.ahead.now.levels in
    let here = c.loop-index in
    let inv = here.invariant in
    let first = c.len-first.result in
    let offers = here.ahead.offers.items in
    let Offered : ℕ → ℕ → Type 0 = IsOffered book (least_of plan.guide) cost (levels_of l c.args.top) c.args.size c.args.spare in
    let a = c.len-first.ensures in
    let m = c.args.ahead.now.offers.ok.0 in
    let d = c.len-index-end.ensures in
    let n = c.gather.new.offers.ok.0 in
    let w = c.in_ok-gather.ensures.put.within in
    let there : first ≤ c.len-index-end.result = omega (arith, a, m, d, n, w) in
    let r = here.auto.index-end there in
    let e = inv.end in
    let t = c.loop-index-test.false in
    let end : length offers ≡ here.index = omega (arith, r, e, t) in
    stroll-end book cost plan.guide right c.args.frames.now l c.args.top most c.args.size c.args.spare c.args.cursor aimed few asks (opening_before first offers here.index) c.args.walk.now here.walk true
    (earliest-none Offered first offers inv.rising (inv.gathered book right) here.index here.auto.index end) (inv.listed book most right all aimed few asks)

pub open_on-returns-then-size-cost-clause-listed : goal.open_on-returns-then-size-cost-clause-listed
open_on-returns-then-size-cost-clause-listed t c = λ book most right all aimed few asks.
    let plan = c.args.plan.now in
    let cost = cost_of plan.costs.now in
    let f = c.args.frames.now in
    let l = c.args.ahead.now.levels in
    elim c.then-size-cost.branch [
      | open_on-then-size-cost-via-then-size-cost w ↦
          too-costly book cost plan.guide right f l c.args.top most c.args.size c.args.spare c.args.cursor aimed few asks c.args.opening c.args.walk.now
          (let s = w.if-size-cost.true in let e = c.cost_at-cost.ensures in omega (arith, s, e))
      | open_on-then-size-cost-via-else-size-cost+then-spare-opening w ↦
          too-many book cost plan.guide right f l c.args.top most c.args.size c.args.spare c.args.cursor aimed few asks c.args.opening c.args.walk.now w.if-spare-opening.true
    ]

pub open_on-returns-in_default-clause-listed : goal.open_on-returns-in_default-clause-listed
open_on-returns-in_default-clause-listed t c = λ book most right all aimed few asks.
    let plan = c.args.plan.now in
    too-soon book (cost_of plan.costs.now) plan.guide right c.args.frames.now c.args.ahead.now.levels c.args.top most c.args.size c.args.spare c.args.cursor aimed few asks c.args.opening c.args.walk.now (c.in_default.ensures.none refl)

pub open_on-returns-clause-listed : goal.open_on-returns-clause-listed
open_on-returns-clause-listed t c = λ book most right all aimed few asks.
    let plan = c.args.plan.now in
    let cost = cost_of plan.costs.now in
    let f = c.args.frames.now in
    let l = c.args.ahead.now.levels in
    let r = c.requires in
    let o = c.args.opening in
    let size = c.args.size in
    let old = c.args.walk.now in
    let next = c.in-Some.next in
    let k : c.cost_at-cost.result ≡ cost o.component = c.cost_at-cost.ensures in
    let s = c.if-size-cost.false in
    let begun = c.begin.new.frames in
    let b = c.in_ok-begun.ensures in
    let ended = c.settle.new.frames in
    let now = c.in_ok-now.now in
    let start : Walk = record { awaited = old.awaited; code = c.push-2.new.self; codes = old.codes; known = old.known } in
    let P : ℕ → Type 0 = λ z. Lists (DueOn book cost plan.guide.start (stack_of ended now) (size - z) (c.args.spare - o.count) next) start c.descend.new.walk c.in_ok-going.going in
    stroll-into book cost plan.guide right f l c.args.top most size c.args.spare c.args.cursor aimed few asks o (size - cost o.component) next begun ended c.in_ok-begun.begun now
    (b.begun book cost right (omega (arith, s, k))) c.in_ok-now.ensures.settled old c.descend.new.walk start c.descend.new.walk c.in_ok-going.going
    (omega (arith, s, k)) c.if-spare-opening.false c.in-Some.ensures.some r.frames b.frames b.grown b.count b.mark b.kept r.within r.top all
    (c.in_ok-push-2.ensures.items ∙ ap (λ (xs : List ℕ). xs ++ o.count ∷ []) c.in_ok-push.ensures.items ∙ append_assoc old.code.items (o.component ∷ []) (o.count ∷ []))
    refl refl
    (λ a i. subst P k (c.in_ok-going.ensures.listed book right a i))

pub descend-returns-then-mark-eq0-clause-listed : goal.descend-returns-then-mark-eq0-clause-listed
descend-returns-then-mark-eq0-clause-listed t c = λ book right all ready.
    let plan = c.args.plan.now in
    let cost = cost_of plan.costs.now in
    let f = c.args.frames.now in
    let top = c.args.top in
    let r = c.requires in
    let s = r.some in
    let w = r.within in
    let e = c.index-mark.ensures ∙ get-any f.marks.items (top - 1) _ (omega (arith, s, w)) in
    let z : (frame_at f (top - 1)).left ≡ 0 = sym (ap (λ (m : Mark). m.left) e) ∙ c.if-mark-eq0.true in
    let a = whole-alone f top r.frames s w ready z in
    let room = c.args.spare + await_count (stack_of f top) in
    let P : List Frame → Type 0 = λ fs. IfOk c.emit.result (Lists (IsDueOn book cost plan.guide.start fs c.args.size room c.args.cursor) c.args.walk.now c.emit.new.walk) in
    subst P (sym a) (c.emit.ensures.listed book cost room (frame_at f (top - 1)) a z)

pub descend-returns-clause-listed : goal.descend-returns-clause-listed
descend-returns-clause-listed t c = λ book right all ready.
    let plan = c.args.plan.now in
    let cost = cost_of plan.costs.now in
    let f = c.args.frames.now in
    let top = c.args.top in
    let old = c.args.ahead.now.levels in
    let new = c.aim_on.new.levels in
    let r = c.requires in
    let s = r.some in
    let w = r.within in
    let mark = c.index-mark.result.now in
    let e = c.index-mark.ensures ∙ get-any f.marks.items (top - 1) _ (omega (arith, s, w)) in
    let n = c.if-mark-eq0.false in
    let l : 1 ≤ mark.left = omega (arith, n) in
    let left = ap (λ (m : Mark). m.left) e in
    let p = c.places_on-places.ensures ∙ (λ i. places_at (map place_of (c.as_slice-2.ensures.value i)) 0 (map mark_of (c.as_slice.ensures.value i)) (top - 1)) in
    let b = c.in_ok-aim_on.ensures in
    let aimed = aimed-code book plan.guide f old new top c.args.spare mark (map place_of c.places_on-places.result.now) e p r.frames s w all l (b.first book cost right) (b.steps book cost right) in
    c.in_ok-going.ensures.listed book c.args.spare right (aimed-grown book plan.guide f old new r.columns b.grown all) aimed (omega arith)
    (more-asks f top r.frames s w ready (omega (arith, l, left)))
