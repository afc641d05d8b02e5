use Rattle.std.proofs.Common.{ℕ, ◌<◌, length, get_or, subst, sym, ◌∙◌, arith, below_more, List, []}
use Rattle.std.proofs.lemmas.List.Elements.{All-get_or}
use Rattle.cls_base.specs.Lists.{AreBelow}
use Rattle.cls_check.specs.Places.{arrows_in}
use Rattle.cls_check.specs.Tests.{IsStopped}
use Rattle.cls_check.proofs.Loops.{not-false, is-true, differs, passed}
use Rattle.cls_check.proofs.steps.all_blocked.Goals as goal

pub loop-i-init : goal.loop-i-init
loop-i-init c = record { blocked = λ k m. absurd (omega arith); known = c.requires.known }

pub is_known_blocked-requires-clause-within : goal.is_known_blocked-requires-clause-within
is_known_blocked-requires-clause-within c =
    let l : c.loop-i.i < length c.args.sets.now = omega arith in
    subst (λ (q : List ℕ). AreBelow (length (arrows_in c.args.lib.now c.args.place)) q) (sym c.get.ensures) (All-get_or (AreBelow (length (arrows_in c.args.lib.now c.args.place))) c.args.sets.now c.loop-i.i [] l c.requires.within)

pub returns-then-not-branch-clause-blocked : goal.returns-then-not-branch-clause-blocked
returns-then-not-branch-clause-blocked c =
    let l : c.loop-i.i < length c.args.sets.now = omega arith in (
      (λ t. absurd (not-false t)),
      (λ h. absurd (differs (sym c.if-not-branch.true ∙ c.in_ok-is_known_blocked.ensures.blocked.1
          (subst (λ (q : List ℕ). IsStopped c.args.lib.now c.args.goals.now c.args.place q) (sym c.get.ensures) (All-get_or (IsStopped c.args.lib.now c.args.goals.now c.args.place) c.args.sets.now c.loop-i.i [] l h))))),
    )

pub loop-i-preserved : goal.loop-i-preserved
loop-i-preserved c =
    let one = subst (λ (q : List ℕ). IsStopped c.args.lib.now c.args.goals.now c.args.place q) c.get.ensures (c.in_ok-is_known_blocked.ensures.blocked.0 c.if-not-branch.false) in
    record {
      blocked = below_more (λ k. IsStopped c.args.lib.now c.args.goals.now c.args.place (get_or c.args.sets.now k [])) c.loop-i.i c.loop-i.invariant.blocked one;
      known = c.in_ok-is_known_blocked.ensures.known;
    }

pub returns-clause-blocked : goal.returns-clause-blocked
returns-clause-blocked c = ((λ t. passed (IsStopped c.args.lib.now c.args.goals.now c.args.place) c.args.sets.now [] c.loop-i.i (omega arith) c.loop-i.invariant.blocked), (λ h. is-true))
