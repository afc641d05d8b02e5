use Rattle.std.proofs.Common.{ℕ, ◌≡◌, ◌<◌, ◌≤◌, ◌∷◌, ◌↔◌, IsTrue, length, get_or, subst, sym, ap, ◌∙◌, arith, List, []}
use Rattle.std.specs.Prelude.{All, Contains}
use Rattle.std.proofs.lemmas.List.Elements.{All-get_or}
use Rattle.cls_path.specs.Paths.{TypePath}
use Rattle.cls_check.specs.Checking.{IsBlocked}
use Rattle.cls_check.specs.Goals.{IsBelowGoal}
use Rattle.cls_check.specs.Layers.{AllBelow}
use Rattle.cls_check.specs.Places.{arrows_in}
use Rattle.cls_check.specs.Tests.{sets_at}
use Rattle.cls_check.proofs.Loops.{not-false, differs, item}
use Rattle.cls_check.proofs.Order.{suits_item}
use Rattle.cls_check.proofs.Stepping.{total_length, sets_below, Settled, from_step, from_end}
use Rattle.cls_check.proofs.steps.is_walked.Goals as goal

pub loop-step-init : goal.loop-step-init
loop-step-init c = record { walked = ((λ h. h), (λ h. h)); known = c.requires.known }

pub sets_at-sets-requires : goal.sets_at-sets-requires
sets_at-sets-requires c =
    let n = ap (λ (q : List TypePath). length q) c.paths-path-items.ensures in
    let t = total_length c.args.goal.now in let m = c.requires.as_many in let h = c.loop-step-test.true in omega arith

pub get-layer-requires : goal.get-layer-requires
get-layer-requires c =
    let n = ap (λ (q : List TypePath). length q) c.paths-path-items.ensures in
    let t = total_length c.args.goal.now in let m = c.requires.as_many in let h = c.loop-step-test.true in omega arith

pub all_step-requires-clause-suits : goal.all_step-requires-clause-suits
all_step-requires-clause-suits c =
    let m = item c.paths-path-items.result.now c.loop-step.step c.path-item.result c.path-item.is c.loop-step-test.true in
    suits_item c.args.lib.now c.args.goal.now c.requires.suits c.path-item.result (subst (λ (ps : List TypePath). Contains ps c.path-item.result) c.paths-path-items.ensures m)

pub all_step-requires-clause-within : goal.all_step-requires-clause-within
all_step-requires-clause-within c =
    let e = c.sets_at-sets.ensures ∙ ap (λ (s : List (List ℕ)). sets_at s c.args.layers.now c.loop-step.step) c.in_ok-start.ensures in
    subst (λ (q : List (List ℕ)). AllBelow (length (arrows_in c.args.lib.now c.args.place)) q) (sym e) (sets_below (length (arrows_in c.args.lib.now c.args.place)) c.args.layers.now c.loop-step.step c.requires.within)

pub all_step-requires-clause-layer : goal.all_step-requires-clause-layer
all_step-requires-clause-layer c =
    let n = ap (λ (q : List TypePath). length q) c.paths-path-items.ensures in
    let t = total_length c.args.goal.now in
    let h : c.loop-step.step < length c.args.layers.now = (let m = c.requires.as_many in let k = c.loop-step-test.true in omega arith) in
    subst (λ (q : List (List ℕ)). AllBelow (length (arrows_in c.args.lib.now c.args.place)) q) (sym c.get-layer.ensures)
    (All-get_or (AllBelow (length (arrows_in c.args.lib.now c.args.place))) c.args.layers.now c.loop-step.step [] h c.requires.within)

pub returns-then-not-branch-clause-walked : goal.returns-then-not-branch-clause-walked
returns-then-not-branch-clause-walked c =
    let l = c.args.lib.now in
    let P = IsBelowGoal l c.args.goals.now in
    let items : c.paths-path-items.result.now ≡ c.args.goal.now = c.paths-path-items.ensures in
    let n = ap (λ (q : List TypePath). length q) items in
    let t = total_length c.args.goal.now in
    let h : c.loop-step.step < length c.args.layers.now = (let m = c.requires.as_many in let k = c.loop-step-test.true in omega arith) in
    let sets = c.sets_at-sets.ensures ∙ ap (λ (s : List (List ℕ)). sets_at s c.args.layers.now c.loop-step.step) c.in_ok-start.ensures in
    let layer : c.get-layer.result ≡ get_or c.args.layers.now c.loop-step.step [] = c.get-layer.ensures in
    let one = from_step l P (arrows_in l c.args.place) c.args.place.n c.args.goal.now ([] ∷ []) c.args.layers.now c.loop-step.step c.path-item.result
    (c.path-item.is ∙ ap (λ (q : List TypePath). get_or q c.loop-step.step c.path-item.result) items) (let m = c.loop-step-test.true in omega arith) (let m = c.requires.as_many in omega arith) in (
      (λ f. absurd (not-false f)),
      (λ w. absurd (differs (sym c.if-not-branch.true ∙ c.in_ok-all_step.ensures.step.1
          (subst (λ (q : List (List ℕ)). All (Settled l P (arrows_in l c.args.place) c.args.place.n c.path-item.result c.get-layer.result) q) (sym sets)
          (subst (λ (q : List (List ℕ)). All (Settled l P (arrows_in l c.args.place) c.args.place.n c.path-item.result q) (sets_at ([] ∷ []) c.args.layers.now c.loop-step.step)) (sym layer)
          (one.0 (c.loop-step.invariant.walked.1 w)).0))))),
    )

pub loop-step-preserved : goal.loop-step-preserved
loop-step-preserved c =
    let l = c.args.lib.now in
    let P = IsBelowGoal l c.args.goals.now in
    let items : c.paths-path-items.result.now ≡ c.args.goal.now = c.paths-path-items.ensures in
    let n = ap (λ (q : List TypePath). length q) items in
    let t = total_length c.args.goal.now in
    let h : c.loop-step.step < length c.args.layers.now = (let m = c.requires.as_many in let k = c.loop-step-test.true in omega arith) in
    let sets = c.sets_at-sets.ensures ∙ ap (λ (s : List (List ℕ)). sets_at s c.args.layers.now c.loop-step.step) c.in_ok-start.ensures in
    let layer : c.get-layer.result ≡ get_or c.args.layers.now c.loop-step.step [] = c.get-layer.ensures in
    let one = from_step l P (arrows_in l c.args.place) c.args.place.n c.args.goal.now ([] ∷ []) c.args.layers.now c.loop-step.step c.path-item.result
    (c.path-item.is ∙ ap (λ (q : List TypePath). get_or q c.loop-step.step c.path-item.result) items) (let m = c.loop-step-test.true in omega arith) (let m = c.requires.as_many in omega arith) in
    let settled = subst (λ (q : List (List ℕ)). All (Settled l P (arrows_in l c.args.place) c.args.place.n c.path-item.result q) (sets_at ([] ∷ []) c.args.layers.now c.loop-step.step)) layer
    (subst (λ (q : List (List ℕ)). All (Settled l P (arrows_in l c.args.place) c.args.place.n c.path-item.result c.get-layer.result) q) sets (c.in_ok-all_step.ensures.step.0 c.if-not-branch.false)) in
    record {
      walked = ((λ f. c.loop-step.invariant.walked.0 (one.1 (settled, f))), (λ w. (one.0 (c.loop-step.invariant.walked.1 w)).1));
      known = c.in_ok-all_step.ensures.known;
    }

pub all_blocked-requires-clause-within : goal.all_blocked-requires-clause-within
all_blocked-requires-clause-within c =
    let e = c.sets_at-last.ensures ∙ (λ j. sets_at (c.in_ok-start.ensures j) c.args.layers.now (c.len.ensures j)) in
    subst (λ (q : List (List ℕ)). AllBelow (length (arrows_in c.args.lib.now c.args.place)) q) (sym e) (sets_below (length (arrows_in c.args.lib.now c.args.place)) c.args.layers.now (length c.args.layers.now) c.requires.within)

pub returns-clause-walked : goal.returns-clause-walked
returns-clause-walked c =
    let l = c.args.lib.now in
    let P = IsBelowGoal l c.args.goals.now in
    let n = ap (λ (q : List TypePath). length q) c.paths-path-items.ensures in
    let t = total_length c.args.goal.now in
    let m = c.requires.as_many in
    let end : c.loop-step.step ≡ length c.args.layers.now = (let a = c.loop-step.auto.step-end in let b = c.loop-step-test.false in omega arith) in
    let long : length c.args.goal.now ≤ c.loop-step.step = (let b = c.loop-step-test.false in omega arith) in
    let e = c.sets_at-last.ensures ∙ (λ j. sets_at (c.in_ok-start.ensures j) c.args.layers.now (c.len.ensures j)) in
    let last : c.sets_at-last.result ≡ sets_at ([] ∷ []) c.args.layers.now c.loop-step.step = e ∙ ap (λ (k : ℕ). sets_at ([] ∷ []) c.args.layers.now k) (sym end) in
    let x = from_end l P (arrows_in l c.args.place) c.args.place.n c.args.goal.now ([] ∷ []) c.args.layers.now c.loop-step.step long in
    let blocked = subst (λ (q : List (List ℕ)). IsTrue c.in_ok-all_blocked.field-0 ↔ All (IsBlocked l P (arrows_in l c.args.place) c.args.place.n) q) last c.in_ok-all_blocked.ensures.blocked in
    ((λ f. c.loop-step.invariant.walked.0 (x.1 (blocked.0 f))), (λ w. blocked.1 (x.0 (c.loop-step.invariant.walked.1 w))))
