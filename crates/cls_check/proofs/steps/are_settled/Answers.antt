use Rattle.std.proofs.Common.{ℕ, ◌<◌, length, get_or, subst, sym, ◌∙◌, arith, below_more, List, []}
use Rattle.std.proofs.lemmas.List.Elements.{All-contains}
use Rattle.std.specs.Prelude.{Contains}
use Rattle.cls_check.specs.Tests.{IsSettled}
use Rattle.cls_check.proofs.KnownSets.{none_settled}
use Rattle.cls_check.proofs.Loops.{not-false, is-true, differs, item, got-list, passed}
use Rattle.cls_check.proofs.steps.are_settled.Goals as goal

pub loop-i-init : goal.loop-i-init
loop-i-init c = record {
  settled = λ k m. absurd (omega arith);
  known = c.requires.known;
  kept = none_settled c.args.lib.now c.args.goals.now c.new-kept.result c.args.place c.args.family.now c.args.layer.now c.new-kept.ensures;
}

pub returns-then-not-branch-clause-settled : goal.returns-then-not-branch-clause-settled
returns-then-not-branch-clause-settled c =
    let set = c.get-set.result.now in
    let low : c.loop-i.i < length c.args.sets.now = omega arith in
    let m : Contains c.args.sets.now set = item c.args.sets.now c.loop-i.i set (got-list c.args.sets.now c.loop-i.i set c.get-set.ensures low) low in (
      (λ t. absurd (not-false t)),
      (λ h. absurd (differs (sym c.if-not-branch.true ∙ c.in_ok-settles.ensures.settled.1
          (All-contains (IsSettled c.args.lib.now c.args.goals.now c.args.place c.args.family.now c.args.layer.now) c.args.sets.now set h m)))),
    )

pub loop-i-preserved : goal.loop-i-preserved
loop-i-preserved c =
    let P = IsSettled c.args.lib.now c.args.goals.now c.args.place c.args.family.now c.args.layer.now in
    let one = subst (λ (q : List ℕ). P q) c.get-set.ensures (c.in_ok-settles.ensures.settled.0 c.if-not-branch.false) in
    record {
      settled = below_more (λ k. P (get_or c.args.sets.now k [])) c.loop-i.i c.loop-i.invariant.settled one;
      known = c.in_ok-settles.ensures.known;
      kept = c.in_ok-settles.ensures.kept;
    }

pub returns-clause-settled : goal.returns-clause-settled
returns-clause-settled c = (
  (λ t. passed (IsSettled c.args.lib.now c.args.goals.now c.args.place c.args.family.now c.args.layer.now) c.args.sets.now [] c.loop-i.i (omega arith) c.loop-i.invariant.settled),
  (λ h. is-true),
)
