use Rattle.std.proofs.Common.{◌≡◌, ◌+◌, ◌++◌, ◌∷◌, [], List, ℕ, ap, append_assoc, arith, length, refl, reverse, rules, sym, subst, ◌∙◌, true, false, Bool}
use Rattle.std.specs.Prelude.{◌↔◌}
use Rattle.cls_walk.specs.Counts.{HeadRule}
use Rattle.cls_term.specs.Costs.{cost_of}
use Rattle.cls_walk.specs.Filled.{form_size, needs}
use Rattle.cls_walk.specs.Forms.{AreRising}
use Rattle.cls_walk.specs.Walks.{IsBack, IsBehind, IsWanted, IsWantedBy, Lists}
use Rattle.cls_walk.specs.declared.stretch.Stretch.{Stretch}
use Rattle.cls_walk.specs.declared.walk.Walk.{Walk}
use Rattle.cls_walk.proofs.Filled.{needs-append}
use Rattle.cls_walk.proofs.Replays.{holds-listed, lists-replayed, remembers-kept}
use Rattle.cls_walk.proofs.Sizes.{left-whole, size-at}
use Rattle.cls_walk.proofs.Walks.{awaited-next, by-same, each-step, each-stop, each-whole, item-in, kept-form, lists-by, lists-none, too-early, too-much}
use Rattle.cls_walk.proofs.walk.+descend.Goals as goal
use Rattle.cls_walk.proofs.walk.+descend.Goals.{go-then-slack-gt0+then-cursor+then-is_empty+in_ok-going, go-else-slack-gt0+in_ok-going-2}

pub each_form-follow-requires : goal.each_form-follow-requires
each_form-follow-requires t c =
    let plan = c.args.plan.now in
    let least = plan.least.now in
    let n = c.args.node in
    let fs = c.of-forms.result.now in
    let h = c.index-forms-place.result in
    let i = item-in plan.forms.now n fs c.loop-place.place h c.of-forms.ensures (omega (arith, c.loop-place-test.true)) c.index-forms-place.is in
    let a : needs least (reverse c.loop-place.walk.awaited.items) ≡ needs least (reverse c.args.walk.now.awaited.items) = ap (λ (xs : List ℕ). needs least (reverse xs)) c.loop-place.invariant.awaited in
    let b = plan.least_sizes n h i in
    let s = size-at (cost_of plan.costs.now) least plan.forms.now plan.sizes.now c.column-sizes.result.now n fs c.loop-place.place h c.number_in-size.result plan.sized c.column-sizes.ensures c.of-forms.ensures (omega (arith, c.loop-place-test.true)) c.index-forms-place.is c.number_in-size.ensures in (
      omega (arith, c.decreases, a, c.number_of-least.ensures),
      (c.requires.rising, (c.loop-place.invariant.few, (c.loop-place.invariant.known, (s, omega (arith, b, c.number_of-least.ensures))))),
    )

pub each_form-returns-then-not-branch-clause-listed : goal.each_form-returns-then-not-branch-clause-listed
each_form-returns-then-not-branch-clause-listed t c =
    let plan = c.args.plan.now in
    let ms = c.args.walk.now.awaited.items in
    let n = c.args.node in
    let size = needs plan.least.now (n ∷ reverse ms) + c.args.slack in
    let fs = c.of-forms.result.now in
    let h = c.index-forms-place.result in
    let P : List HeadRule → Type 0 = λ gs. AreRising gs in
    let r = subst P (sym c.of-forms.ensures) (c.requires.rising n) in
    let going = false in
    let l = by-same plan h c.args.cursor c.loop-place.walk.awaited.items ms c.number_of-least.result n c.args.slack c.loop-place.walk c.follow.new.walk c.in_ok-follow.field-0 going c.loop-place.invariant.awaited c.number_of-least.ensures c.if-not-branch.true c.in_ok-follow.ensures.listed in
    let k = each-step plan (reverse ms) size c.args.cursor fs c.loop-place.place h c.args.walk.now c.loop-place.walk c.follow.new.walk going r (omega (arith, c.loop-place-test.true)) c.index-forms-place.is c.loop-place.invariant.code c.loop-place.invariant.listed l in
    each-stop plan (reverse ms) size c.args.cursor fs (c.loop-place.place + 1) n c.args.walk.now c.follow.new.walk r c.of-forms.ensures k

pub each_form-loop-place-preserved : goal.each_form-loop-place-preserved
each_form-loop-place-preserved t c =
    let plan = c.args.plan.now in
    let ms = c.args.walk.now.awaited.items in
    let n = c.args.node in
    let size = needs plan.least.now (n ∷ reverse ms) + c.args.slack in
    let fs = c.of-forms.result.now in
    let h = c.index-forms-place.result in
    let P : List HeadRule → Type 0 = λ gs. AreRising gs in
    let r = subst P (sym c.of-forms.ensures) (c.requires.rising n) in
    let going = true in
    let l = by-same plan h c.args.cursor c.loop-place.walk.awaited.items ms c.number_of-least.result n c.args.slack c.loop-place.walk c.follow.new.walk c.in_ok-follow.field-0 going c.loop-place.invariant.awaited c.number_of-least.ensures c.if-not-branch.false c.in_ok-follow.ensures.listed in
    let k = each-step plan (reverse ms) size c.args.cursor fs c.loop-place.place h c.args.walk.now c.loop-place.walk c.follow.new.walk going r (omega (arith, c.loop-place-test.true)) c.index-forms-place.is c.loop-place.invariant.code c.loop-place.invariant.listed l in
    record {
      awaited = c.in_ok-follow.ensures.back.awaited ∙ c.loop-place.invariant.awaited;
      code = c.in_ok-follow.ensures.back.code ∙ c.loop-place.invariant.code;
      few = c.in_ok-follow.ensures.back.few c.if-not-branch.false;
      known = c.in_ok-follow.ensures.back.remembers c.loop-place.invariant.known;
      listed = k;
    }

pub each_form-returns-clause-listed : goal.each_form-returns-clause-listed
each_form-returns-clause-listed t c =
    let plan = c.args.plan.now in
    let ms = c.args.walk.now.awaited.items in
    let n = c.args.node in
    let size = needs plan.least.now (n ∷ reverse ms) + c.args.slack in
    each-whole plan (reverse ms) size c.args.cursor c.of-forms.result.now c.loop-place.place n c.args.walk.now c.loop-place.walk true (omega (arith, c.loop-place-test.false)) c.of-forms.ensures c.loop-place.invariant.listed

pub follow-returns-in_default-clause-listed : goal.follow-returns-in_default-clause-listed
follow-returns-in_default-clause-listed t c =
    let plan = c.args.plan.now in
    let ms = reverse c.args.walk.now.awaited.items in
    let h = c.args.form.now in
    let size = c.args.least + needs plan.least.now ms + c.args.slack in
    lists-none (IsWantedBy plan h ms size c.args.cursor) c.args.walk.now (too-much plan ms size c.args.cursor h c.args.least c.args.slack refl (let m = c.in_default.ensures.none refl in let s = c.requires.size in omega (arith, m, s)))

pub follow-returns-in_default-step-clause-listed : goal.follow-returns-in_default-step-clause-listed
follow-returns-in_default-step-clause-listed t c =
    let plan = c.args.plan.now in
    let ms = reverse c.args.walk.now.awaited.items in
    let h = c.args.form.now in
    let size = c.args.least + needs plan.least.now ms + c.args.slack in
    lists-none (IsWantedBy plan h ms size c.args.cursor) c.args.walk.now (too-early plan ms size c.args.cursor h
    (kept-form c.form.inside.component c.form.inside.count c.form.inside.nodes.items h c.form.view_is c.form.invariant (λ x k. (v : List ℕ) → IsBehind c.args.cursor (x ∷ k ∷ v) → ⊥) (c.in_default-step.ensures.none refl)))

pub follow-go-requires : goal.follow-go-requires
follow-go-requires t c =
    let plan = c.args.plan.now in
    let least = plan.least.now in
    let h = c.args.form.now in
    let ms = reverse c.args.walk.now.awaited.items in
    let p : reverse c.await_nodes.new.awaited.items ≡ h.1 ++ ms =
    awaited-next c.form.inside.component c.args.walk.now.awaited.items c.form.inside.nodes.items c.await_nodes.new.awaited.items h c.form.view_is
    (c.in_ok-await_nodes.ensures ∙ ap (λ (xs : List ℕ). c.args.walk.now.awaited.items ++ xs) c.as_slice.ensures.value) in
    let q : needs least (reverse c.await_nodes.new.awaited.items) ≡ needs least (h.1 ++ ms) = ap (needs least) p in
    let k = left-whole (form_size (cost_of plan.costs.now) plan.least.now h) c.args.size c.args.least c.args.slack c.in-Some.left c.ranges.least.fits c.ranges.slack.fits c.requires.size c.in-Some.ensures.some in
    (omega (arith, c.decreases, q, needs-append least h.1 ms, k, plan.positive h.0), (c.requires.rising, (c.requires.few, c.requires.known)))

pub follow-returns-clause-listed : goal.follow-returns-clause-listed
follow-returns-clause-listed t c =
    let plan = c.args.plan.now in
    let h = c.args.form.now in
    let ms = reverse c.args.walk.now.awaited.items in
    let size = c.args.least + needs plan.least.now ms + c.args.slack in
    let least = plan.least.now in
    let cursor = c.args.cursor in
    let next = c.in-Some-step.next in
    let old = c.args.walk.now in
    let p : reverse c.await_nodes.new.awaited.items ≡ h.1 ++ ms =
    awaited-next c.form.inside.component c.args.walk.now.awaited.items c.form.inside.nodes.items c.await_nodes.new.awaited.items h c.form.view_is
    (c.in_ok-await_nodes.ensures ∙ ap (λ (xs : List ℕ). c.args.walk.now.awaited.items ++ xs) c.as_slice.ensures.value) in
    let begun : Walk = record { awaited = c.await_nodes.new.awaited; code = c.push-2.new.self; codes = old.codes; known = old.known } in
    let P : List ℕ → Type 0 = λ ns. Lists (IsWanted plan ns (needs least ns + c.in-Some.left) next) begun c.go.new.walk c.in_ok-going.going in
    lists-by plan ms size cursor h (needs least (h.1 ++ ms) + c.in-Some.left) next old c.go.new.walk begun c.go.new.walk c.in_ok-going.going
    (let k = left-whole (form_size (cost_of plan.costs.now) plan.least.now h) c.args.size c.args.least c.args.slack c.in-Some.left c.ranges.least.fits c.ranges.slack.fits c.requires.size c.in-Some.ensures.some in omega (arith, k, needs-append least h.1 ms))
    (kept-form c.form.inside.component c.form.inside.count c.form.inside.nodes.items h c.form.view_is c.form.invariant (λ x k. (v : List ℕ) → IsBehind cursor (x ∷ k ∷ v) ↔ IsBehind next v) c.in-Some-step.ensures.some)
    (kept-form c.form.inside.component c.form.inside.count c.form.inside.nodes.items h c.form.view_is c.form.invariant (λ x k. c.push-2.new.self.items ≡ old.code.items ++ x ∷ k ∷ [])
    (c.in_ok-push-2.ensures.items ∙ ap (λ (xs : List ℕ). xs ++ c.form.inside.count ∷ []) c.in_ok-push.ensures.items ∙ append_assoc old.code.items (c.form.inside.component ∷ []) (c.form.inside.count ∷ [])))
    refl
    refl
    (subst P p c.in_ok-going.ensures.listed)

pub recall-returns-in-Some-clause-listed : goal.recall-returns-in-Some-clause-listed
recall-returns-in-Some-clause-listed t c =
    let r = c.in-Some.stretch in
    let h = c.requires.known c.args.node c.args.slack r (sym c.find.ensures ∙ c.in-Some.is) in
    lists-replayed c.args.plan.now c.args.node c.args.slack r c.args.cursor c.args.walk.now c.replay.new.walk c.replay.result c.requires.passed h (c.replay.ensures.copies h.0 h.1)

pub recall-returns-in_ok-keep-clause-back : goal.recall-returns-in_ok-keep-clause-back
recall-returns-in_ok-keep-clause-back t c =
    let plan = c.args.plan.now in
    let n = c.args.node in
    let old = c.args.walk.now in
    let walk = c.each_form.new.walk in
    let back = c.in_ok-going.ensures.back in
    let r : Stretch = record { start = c.len-start.result; end = c.len.result; from = c.len-then-going.result } in
    let P : List ℕ → Bool → Type 0 = λ ns going. Lists (IsWanted plan (n ∷ ns) (needs plan.least.now (n ∷ ns) + c.args.slack) c.args.cursor) old walk going in
    let Q : Bool → Type 0 = λ going. P [] going in
    let R : List ℕ → Type 0 = λ ns. P ns c.in_ok-going.going in
    let goes : c.in_ok-going.going ≡ true = search rules in
    let l = subst Q goes (subst R (ap (λ (ns : List ℕ). reverse ns) c.requires.alone) c.in_ok-going.ensures.listed) in
    let h = holds-listed plan n c.args.slack r c.args.cursor old walk c.requires.passed c.len-start.ensures c.len.ensures (c.len-then-going.ensures ∙ walk.code.ok.0 ∙ ap (λ (ns : List ℕ). length ns) back.code) l in
    let new : Walk = record { awaited = walk.awaited; code = walk.code; codes = walk.codes; known = c.keep.new.self } in
    record {
      awaited = back.awaited;
      code = back.code;
      few = back.few;
      full = back.full;
      remembers = λ m. remembers-kept plan n c.args.slack r walk new refl c.in_ok-keep.ensures.kept c.in_ok-keep.ensures.others h (back.remembers m);
    }

pub go-returns-clause-back : goal.go-returns-clause-back
go-returns-clause-back t c =
    let plan = c.args.plan.now in
    let old = c.args.walk.now in
    let popped : Walk = record { awaited = c.pop.new.self; code = old.code; codes = old.codes; known = old.known } in
    let P : Bool → Walk → Type 0 = λ going walk. IsBack plan popped walk going in
    let as_is : (going : Bool) (walk : Walk) → c.if-slack-gt0.walk ≡ walk → c.if-slack-gt0.going ≡ going → P going walk → P c.if-slack-gt0.going c.if-slack-gt0.walk =
    λ going walk p q b. let Q : Bool → Type 0 = λ g. P g c.if-slack-gt0.walk in let R : Walk → Type 0 = λ v. P going v in subst Q (sym q) (subst R (sym p) b) in
    let back : P c.if-slack-gt0.going c.if-slack-gt0.walk = elim c.if-slack-gt0.branch [
      | go-then-slack-gt0+then-cursor+then-is_empty+in_ok-going w ↦ as_is w.in_ok-going.going w.recall.new.walk w.walk-is w.going-is w.in_ok-going.ensures.back
      | go-else-slack-gt0+in_ok-going-2 w ↦ as_is w.in_ok-going-2.going w.each_form.new.walk w.walk-is w.going-is w.in_ok-going-2.ensures.back
    ] in
    record {
      awaited = (let b = back.awaited in search rules);
      code = back.code;
      few = back.few;
      full = back.full;
      remembers = back.remembers;
    }
